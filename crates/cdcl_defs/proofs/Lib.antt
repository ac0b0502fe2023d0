pub mod Chain
pub mod RunLaws
pub mod Vector
pub mod Drops
pub mod Values
pub mod Models
pub mod published
