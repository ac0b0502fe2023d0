pub mod Pending
pub mod Front
pub mod Known
pub mod own
