-- One group's part of a world, and a desk that moves with each of its lines.
pub mod Part
pub mod Events
pub mod Asks
pub mod Steps
