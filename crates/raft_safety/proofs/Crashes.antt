pub mod Crash
pub mod Left
pub mod Mark
pub mod Restart
