pub mod PairLaw
pub mod RowLaw
pub mod Changed
pub mod BitLemmas
pub mod Firsts
pub mod published
