pub mod Ready
pub mod Stored
pub mod Pending
pub mod Saved
