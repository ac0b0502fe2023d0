pub mod Plans
pub mod Laws
pub mod Known
pub mod own
