pub mod Aiger
pub mod Blif
