-- Runs of allowed events: that there are such runs, and what they lead to that one might not expect. Source: this project's own.
pub mod Groups
pub mod Starts
pub mod Sentences
pub mod Against
