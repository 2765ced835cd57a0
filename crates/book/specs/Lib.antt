pub mod Calls
pub mod History
pub mod Matter
pub mod Refusals
pub mod Stages
