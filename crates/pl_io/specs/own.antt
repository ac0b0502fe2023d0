pub mod Sent
pub mod Calls
pub mod MemShelf
pub mod MemSink
pub mod Opened
