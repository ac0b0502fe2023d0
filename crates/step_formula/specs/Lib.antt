pub mod Rows
pub mod own
