pub mod Meaning
pub mod Names
