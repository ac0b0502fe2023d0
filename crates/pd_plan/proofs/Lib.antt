pub mod Steps
pub mod Words
pub mod Lookups
pub mod Kept
pub mod Rows
pub mod Spelled
pub mod PlanTextLaw
