pub mod Counted
pub mod Entering
pub mod Reading
pub mod Taking
pub mod Places
pub mod First
