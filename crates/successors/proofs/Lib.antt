pub mod MovesLaw
pub mod RowState
pub mod TrieLaw
pub mod published
