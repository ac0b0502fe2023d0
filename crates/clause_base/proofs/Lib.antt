pub mod PieceLemmas
pub mod ValueLemmas
pub mod JoinedLemmas
pub mod WorkedRows
pub mod PairFills
pub mod published
pub mod DivisionLaw
