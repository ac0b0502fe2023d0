pub mod Distinct
pub mod Packed
pub mod Store
pub mod own
