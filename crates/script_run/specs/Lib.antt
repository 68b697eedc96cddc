pub mod Reach
pub mod Top
