pub mod ListOrder
pub mod ClausesLaw
pub mod PutLaw
pub mod published
