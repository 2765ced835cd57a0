pub mod Components
pub mod Five
pub mod Joining
pub mod Laws
pub mod Totals
pub mod Tree
