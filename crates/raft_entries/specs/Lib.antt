pub mod Parts
pub mod Mail
pub mod Kept
pub mod Has
pub mod Numbers
