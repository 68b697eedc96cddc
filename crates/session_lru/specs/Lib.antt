pub mod Table
pub mod Calls
pub mod Law
pub mod Section
pub mod Follow
