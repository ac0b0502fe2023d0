pub mod Answers
pub mod Causes
pub mod Command
pub mod Ended
pub mod Headline
pub mod Requested
pub mod Seen
