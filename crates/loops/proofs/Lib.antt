pub mod Never
pub mod Starts
