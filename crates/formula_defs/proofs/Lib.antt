pub mod Alike
pub mod Renamed
mod WorkedRows
pub mod published
