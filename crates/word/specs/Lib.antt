pub mod Bytes
pub mod Faults
pub mod Laws
pub mod Numbers
pub mod States
