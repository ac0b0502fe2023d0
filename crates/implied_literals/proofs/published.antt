pub mod Lists
pub mod Steps
pub mod Closing
pub mod Exact
pub mod Unmoved
