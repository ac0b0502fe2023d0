pub mod Lines
pub mod Horizons
pub mod Laws
