pub mod Layout
pub mod Clause
pub mod Chain
pub mod Variables
pub mod Formula
pub mod Coded
pub mod Shift
pub mod own
