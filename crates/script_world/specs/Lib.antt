pub mod Fit
pub mod Parts
pub mod World
pub mod Took
