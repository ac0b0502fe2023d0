pub mod Told
pub mod Reports
pub mod Complete
mod OneTask
mod OneReport
mod Passing
mod Fits
mod Reported
mod Proving
pub mod Lists
pub mod RaceEnds
pub mod Turns
pub mod Batches
pub mod Promises
pub mod published
