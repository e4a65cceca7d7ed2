pub mod Places
pub mod Laws
pub mod Sweeps
pub mod Entries
pub mod Rows
pub mod Journeys
