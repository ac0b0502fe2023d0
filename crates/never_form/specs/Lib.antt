pub mod Formed
pub mod own
