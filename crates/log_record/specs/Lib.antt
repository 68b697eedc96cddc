pub mod Durable
pub mod Fault
pub mod Record
pub mod Store
pub mod laws
