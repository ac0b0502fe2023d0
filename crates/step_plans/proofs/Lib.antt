pub mod Listed
pub mod Short
pub mod Sets
pub mod Grow
pub mod published
