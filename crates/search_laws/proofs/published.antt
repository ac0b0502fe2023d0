pub mod SearchLaw
