mod Lines
mod Runs
mod Knowing
mod Promises
mod Deciding
mod Refuting
mod Fit
