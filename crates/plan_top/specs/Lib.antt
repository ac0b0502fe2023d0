pub mod Causes
pub mod Complete
pub mod OneReport
pub mod own
pub mod Headline
pub mod Laws
