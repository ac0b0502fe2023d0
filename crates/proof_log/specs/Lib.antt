pub mod Step
pub mod Text
pub mod Place
pub mod Laws
pub mod own
