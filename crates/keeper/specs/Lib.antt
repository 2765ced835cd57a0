pub mod Keeps
pub mod Lesser
pub mod Means
