pub mod ReadBack
pub mod Entries
