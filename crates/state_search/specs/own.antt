pub mod Walk
pub mod Closing
pub mod Breadth
pub mod Path
pub mod Follow
