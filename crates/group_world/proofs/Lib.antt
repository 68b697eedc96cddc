mod Ranges
mod Tables
mod Events
mod Refused
mod Lost
mod Given
