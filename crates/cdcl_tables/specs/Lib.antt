pub mod Pairs
pub mod Origin
pub mod Linked
pub mod Walk
pub mod Assignment
pub mod Mirrored
pub mod Stored
pub mod own
