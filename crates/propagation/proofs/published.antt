pub mod Assigns
pub mod Removes
pub mod Adds
