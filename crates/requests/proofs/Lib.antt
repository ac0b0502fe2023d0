mod Fit
mod SameReaders
mod Numbers
pub mod Chain
pub mod Commands
mod Arguments
mod PassedReaders
mod NoFault
mod ParsedNumbers
mod Addresses
pub mod published
