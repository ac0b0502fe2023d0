pub mod Alike
mod Rows
mod Tried
pub mod TypeWalk
pub mod Rooted
pub mod LineLaw
pub mod published
