pub mod Members
pub mod Events
