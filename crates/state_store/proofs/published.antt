pub mod PushedLaw
pub mod RowLaw
