pub mod PlansLaw
pub mod TreeLaw
pub mod published
