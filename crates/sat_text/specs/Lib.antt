pub mod LratLine
pub mod Lines
pub mod Dimacs
pub mod FirstFalse
pub mod Values
pub mod Stands
pub mod Words
pub mod own
