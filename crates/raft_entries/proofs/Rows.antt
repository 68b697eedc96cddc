-- The rows of the step table, told in a few words that each change a replica's parts: what every word keeps, every row and every step keeps.
pub mod Words
pub mod Laying
pub mod Sending
pub mod Elections
pub mod Proposals
pub mod Reads
pub mod Appends
pub mod Snapshots
pub mod Steps
