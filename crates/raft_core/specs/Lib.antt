pub mod Notes
pub mod Marks
pub mod Range
pub mod Core
pub mod Confirming
