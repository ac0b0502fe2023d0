pub mod SetLaw
