pub mod Starts
pub mod Advances
pub mod Ends
pub mod Exhausted
