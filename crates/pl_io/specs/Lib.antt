pub mod Outside
pub mod Tape
pub mod own
