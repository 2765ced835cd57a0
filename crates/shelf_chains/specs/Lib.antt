pub mod Means
pub mod Rings
