pub mod Judged
pub mod Verdicts
pub mod Reached
pub mod Follow
pub mod Ids
