pub mod Below
pub mod Exclusions
