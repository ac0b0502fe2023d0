pub mod Reading
pub mod Action
pub mod Atoms
pub mod Declarations
pub mod Effects
pub mod own
