mod Fits
mod Ranges
mod Steps
mod Waits
mod Confirming
pub mod Sizes
pub mod Windows
