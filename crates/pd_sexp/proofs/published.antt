pub mod Views
pub mod Bytes
pub mod Whole
pub mod WordEnds
