pub mod Tables
pub mod Lists
pub mod Lineage
pub mod Levels
pub mod published
