pub mod Means
pub mod Choice
pub mod ChoiceLaw
pub mod Walk
pub mod own
