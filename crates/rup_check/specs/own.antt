pub mod Ends
pub mod Kept
pub mod Effects
pub mod Falsified
pub mod Page
pub mod Pages
