pub mod Sound
pub mod NameLemmas
pub mod TypeLemmas
