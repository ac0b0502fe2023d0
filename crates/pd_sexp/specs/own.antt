pub mod Place
pub mod Reader
