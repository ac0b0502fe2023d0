pub mod SetAt
pub mod Ranges
pub mod SequenceLaw
pub mod MembersLaw
pub mod ExistsSteps
pub mod AllWriting
