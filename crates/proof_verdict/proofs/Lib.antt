pub mod published
