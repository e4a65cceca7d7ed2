pub mod Journeys
pub mod Denied
pub mod Law
