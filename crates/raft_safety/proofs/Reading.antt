pub mod Asks
pub mod Steps
pub mod Rounds
pub mod OtherRows
pub mod SnapshotRows
pub mod ReadRows
pub mod Starts
pub mod Events
