-- A desk that fits, and its moves where a request opens, where reads are confirmed and where entries are given to a cell.
pub mod Fits
pub mod Opening
pub mod Endings
pub mod Confirms
pub mod Applies
