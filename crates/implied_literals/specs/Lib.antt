pub mod Known
pub mod Breaks
pub mod Rows
pub mod Tested
pub mod Renewed
