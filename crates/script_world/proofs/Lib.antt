pub mod Fits
pub mod Lanes
pub mod Settles
pub mod Hearing
