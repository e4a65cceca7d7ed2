pub mod Meanings
pub mod Limits
