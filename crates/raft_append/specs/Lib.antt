pub mod Laying
pub mod Matching
