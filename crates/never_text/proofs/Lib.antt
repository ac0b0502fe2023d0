pub mod Lines
pub mod SortedLaw
pub mod Written
pub mod Usable
pub mod ReadLaw
pub mod Numbers
pub mod WrittenBack
pub mod SortedAgain
