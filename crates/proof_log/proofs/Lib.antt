pub mod HeldLaws
pub mod NumberLaws
pub mod NumbersLaws
mod Clauses
mod Cuts
mod Digits
mod Lengths
mod Lines
mod Spelling
pub mod published
pub mod LiteralLaws
