pub mod Blank
pub mod Means
pub mod Nodes
