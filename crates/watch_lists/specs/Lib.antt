pub mod Pending
pub mod own
