pub mod Limits
pub mod Numbers
pub mod Laws
pub mod own
