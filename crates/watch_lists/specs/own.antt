pub mod First
pub mod Known
