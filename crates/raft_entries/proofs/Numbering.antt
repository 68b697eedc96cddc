-- Entries are numbered from a fresh group on: numbered lists, the words of the rows, batches and starts, and then groups.
pub mod Lists
pub mod Laying
pub mod Words
pub mod Batches
pub mod Groups
