pub mod Places
pub mod WordLaw
