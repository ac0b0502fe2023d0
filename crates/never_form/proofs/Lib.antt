pub mod Turns
pub mod Below
pub mod Numbers
pub mod Same
pub mod Refuted
pub mod Forms
