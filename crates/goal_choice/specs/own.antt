pub mod Members
pub mod Supports
pub mod Kept
pub mod Told
pub mod Needs
pub mod Joined
pub mod Search
