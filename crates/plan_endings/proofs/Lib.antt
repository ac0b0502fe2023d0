mod Pushed
pub mod published
