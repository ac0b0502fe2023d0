pub mod ExtendLaw
