-- What a host's cell stands for.
pub mod History
pub mod Judging
pub mod Standing
