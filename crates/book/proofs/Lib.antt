pub mod Fresh
pub mod Histories
pub mod Soundness
