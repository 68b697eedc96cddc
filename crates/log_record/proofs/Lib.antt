pub mod Files
pub mod Gating
pub mod Many
pub mod Sizes
pub mod Standing
pub mod Written
