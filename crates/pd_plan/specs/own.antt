pub mod Answers
pub mod Names
pub mod Spells
pub mod Progress
pub mod Reader
pub mod Depot
