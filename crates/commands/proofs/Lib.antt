pub mod Answered
pub mod published
pub mod Runs
pub mod Ties
