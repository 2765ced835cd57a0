pub mod Passed
pub mod Others
