pub mod Renewing
pub mod Bounding
pub mod published
