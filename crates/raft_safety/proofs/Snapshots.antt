pub mod Compact
pub mod Chunk
pub mod Install
