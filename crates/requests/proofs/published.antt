pub mod ListReaders
pub mod Ranges
pub mod Made
