pub mod Parts
pub mod Whole
pub mod Joined
pub mod Parted
pub mod Counted
