pub mod Marks
pub mod Rows
pub mod Layered
pub mod own
