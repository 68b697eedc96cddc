-- Lists, tables by key, and moves of a desk one after another.
pub mod Lists
pub mod Tables
pub mod Moves
