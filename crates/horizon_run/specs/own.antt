pub mod Resume
pub mod Seen
pub mod Held
pub mod Started
