pub mod Fresh
pub mod Filling
pub mod Exhausted
