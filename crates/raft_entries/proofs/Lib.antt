-- The rows of the step table in words, the events of a group by the steps of its hosts, and the two laws: all entries and proposals keep what they have, and entries are numbered.
pub mod Rows
mod Groups
pub mod Keeping
mod Numbering
