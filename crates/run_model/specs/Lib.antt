pub mod World
pub mod Run
pub mod Marks
pub mod Rows
