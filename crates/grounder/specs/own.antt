pub mod Known
pub mod Bindings
pub mod Putting
pub mod Few
pub mod Found
pub mod Counted
pub mod Numbered
