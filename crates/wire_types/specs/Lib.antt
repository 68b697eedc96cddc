pub mod Grammar
pub mod Held
