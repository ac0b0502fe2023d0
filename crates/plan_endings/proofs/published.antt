pub mod Stopped
pub mod Statuses
pub mod Words
