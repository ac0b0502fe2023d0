pub mod Search
pub mod Between
pub mod Told
