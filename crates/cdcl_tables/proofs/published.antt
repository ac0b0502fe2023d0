pub mod Five
pub mod Assignments
pub mod Levels
pub mod Mirrors
