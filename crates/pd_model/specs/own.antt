pub mod TypeTree
pub mod Line
pub mod Walk
pub mod Variables
pub mod Follows
