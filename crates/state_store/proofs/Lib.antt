pub mod PackLaw
pub mod RowsLaw
pub mod TreeLaw
pub mod TableLaw
pub mod BitLaw
pub mod StoreLaw
pub mod published
