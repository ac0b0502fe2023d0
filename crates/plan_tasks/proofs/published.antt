pub mod Claims
pub mod Printing
pub mod Statuses
pub mod TellingPlans
pub mod Taking
pub mod Hearing
