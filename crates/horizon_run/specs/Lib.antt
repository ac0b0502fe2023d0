pub mod Run
pub mod own
