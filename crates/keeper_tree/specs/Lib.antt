pub mod Means
pub mod Trees
