pub mod Held
pub mod Linking
pub mod Rings
