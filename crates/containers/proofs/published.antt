pub mod Made
pub mod CodeLaw
