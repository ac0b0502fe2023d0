pub mod Walks
pub mod Equality
pub mod States
pub mod Tasks
pub mod Reading
pub mod Marks
