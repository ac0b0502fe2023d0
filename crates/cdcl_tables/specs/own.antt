pub mod Stored
pub mod Moved
pub mod Lists
