pub mod Bytes
pub mod Entries
pub mod Joined
pub mod Numbers
pub mod Refusals
pub mod Whole
