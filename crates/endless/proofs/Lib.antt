pub mod Evidence
pub mod Moves
pub mod Rounds
pub mod Denials
pub mod Journeys
