pub mod Rosters
pub mod Commands
