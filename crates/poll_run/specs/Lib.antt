pub mod PolledRun
pub mod Polls
pub mod own
