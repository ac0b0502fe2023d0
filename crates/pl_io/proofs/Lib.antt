pub mod Grown
pub mod Counted
