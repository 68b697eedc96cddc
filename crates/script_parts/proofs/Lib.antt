pub mod Fits
pub mod Confirming
pub mod Insert
