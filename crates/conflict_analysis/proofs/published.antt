pub mod Placed
pub mod Longs
