pub mod Numbers
pub mod OnePoll
pub mod Works
pub mod Tied
