pub mod Adders
pub mod Sizes
pub mod Adds
