pub mod Cut
pub mod Short
pub mod Reading
