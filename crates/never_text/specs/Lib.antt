pub mod Certificate
pub mod Reading
pub mod Laws
pub mod own
