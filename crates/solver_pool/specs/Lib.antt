pub mod Resume
pub mod Job
pub mod Ring
pub mod CountRun
pub mod own
