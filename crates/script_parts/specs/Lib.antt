pub mod Fit
pub mod Index
pub mod Due
pub mod Cell
