mod Thinning
pub mod Thin
pub mod Alike
pub mod published
