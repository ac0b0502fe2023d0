pub mod Held
pub mod Number
pub mod Placed
pub mod Numbers
pub mod Codes
pub mod Length
pub mod Reading
