-- What a run takes of the group: the safety law, the law of entries, and what every event of a group keeps.
pub mod Law
pub mod Growth
pub mod Voters
pub mod Uncut
pub mod Given
pub mod Notes
