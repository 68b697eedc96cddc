pub mod Gates
pub mod Moments
