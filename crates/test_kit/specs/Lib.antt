pub mod own
