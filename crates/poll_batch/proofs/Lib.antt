pub mod Lists
pub mod Polled
pub mod Standing
pub mod Falls
pub mod OnePolled
pub mod published
