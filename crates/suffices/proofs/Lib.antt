pub mod Counting
pub mod Leaving
pub mod Passing
