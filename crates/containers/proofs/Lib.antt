pub mod PieceLemmas
pub mod published
