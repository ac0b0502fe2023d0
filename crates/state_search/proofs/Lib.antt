pub mod WalkLaw
pub mod ClosingLaw
pub mod PathLaw
pub mod BreadthLaw
pub mod LeastLaw
