pub mod After
pub mod Noted
