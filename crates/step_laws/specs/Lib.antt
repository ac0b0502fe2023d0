pub mod Form
pub mod Stepping
pub mod Never
pub mod own
