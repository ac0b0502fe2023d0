pub mod Free
