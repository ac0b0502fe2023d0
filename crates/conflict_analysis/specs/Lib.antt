pub mod Clauses
pub mod Walk
pub mod Longs
pub mod Analysis
pub mod own
