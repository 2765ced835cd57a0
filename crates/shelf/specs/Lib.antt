pub mod Holds
pub mod Means
