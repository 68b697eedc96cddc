pub mod Files
pub mod Forms
pub mod Records
pub mod Stored
pub mod Whole
