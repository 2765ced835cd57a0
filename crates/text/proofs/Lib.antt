pub mod Joins
pub mod Naming
pub mod One
pub mod Pieces
pub mod Rowing
pub mod Shown
pub mod Reading
