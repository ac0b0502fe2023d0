pub mod Chains
pub mod BothWays
pub mod own
