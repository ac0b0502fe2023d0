pub mod SkipLaw
