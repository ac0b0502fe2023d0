pub mod Domains
pub mod Thinned
