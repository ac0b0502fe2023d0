pub mod Links
pub mod Walk
pub mod Touching
pub mod Index
