pub mod Lists
pub mod Orders
pub mod Sets
pub mod Members
pub mod Kept
pub mod Places
pub mod Founding
pub mod Unique
