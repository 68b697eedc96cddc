pub mod Quorums
pub mod Agreement
pub mod Chosen
pub mod Decided
pub mod Voters
pub mod Elected
pub mod Stretches
pub mod WholeLogs
