pub mod Bytes
pub mod Calls
pub mod Loaded
pub mod Saved
pub mod Times
