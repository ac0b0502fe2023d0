pub mod Fault
pub mod PlanFile
pub mod PlanText
pub mod Laws
pub mod Tokens
pub mod WordLists
pub mod own
