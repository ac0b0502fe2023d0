pub mod Sets
pub mod Propagation
pub mod Cases
pub mod After
pub mod Forward
pub mod Backward
pub mod Weights
pub mod Laws
