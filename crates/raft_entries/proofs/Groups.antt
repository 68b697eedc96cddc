-- What every step of a host keeps, every event of a group keeps.
pub mod Tables
pub mod Moves
pub mod Events
