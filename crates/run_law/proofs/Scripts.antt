-- Lines and whole scripts, and what they say of other groups.
pub mod Rosters
pub mod Voters
pub mod Lines
pub mod Runs
pub mod Ends
pub mod OtherGroups
