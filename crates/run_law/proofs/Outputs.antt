-- A whole run's output is legal, whatever the roster.
pub mod Legal
