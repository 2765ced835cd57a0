pub mod Able
pub mod Laws
pub mod Rules
pub mod State
pub mod Steps
