pub mod Lists
pub mod PublishLaw
