pub mod Lines
pub mod Spelled
pub mod Told
pub mod Pushed
pub mod TaskLines
pub mod Placed
