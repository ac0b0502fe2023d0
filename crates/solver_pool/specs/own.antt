pub mod PassView
pub mod Rule
pub mod Steps
pub mod Serve
pub mod Left
pub mod Worker
pub mod Rounds
pub mod Turns
