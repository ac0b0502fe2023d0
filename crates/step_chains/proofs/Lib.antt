pub mod LinkLaw
pub mod WalkLaw
pub mod ClauseLaw
pub mod SizeLaw
pub mod IndexLaw
pub mod RangeLaw
pub mod published
