pub mod Truth
pub mod Ways
pub mod ForwardLaw
pub mod BackwardLaw
pub mod WeightsLaw
pub mod Runs
