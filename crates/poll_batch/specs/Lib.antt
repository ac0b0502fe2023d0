pub mod Batch
pub mod View
pub mod own
