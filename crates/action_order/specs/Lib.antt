pub mod Order
pub mod own
