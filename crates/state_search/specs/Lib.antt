pub mod Answer
pub mod Room
pub mod own
