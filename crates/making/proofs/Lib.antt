pub mod Beginning
pub mod Fitting
pub mod Forming
pub mod Keeping
pub mod Linking
pub mod Looking
pub mod Merging
pub mod Numbering
