pub mod Sizes
pub mod Joined
pub mod PairRows
pub mod Shared
