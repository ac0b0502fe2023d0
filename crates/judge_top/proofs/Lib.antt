mod Given
mod Handed
mod Formulas
mod Deciding
mod Promises
mod Fit
