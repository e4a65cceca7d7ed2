pub mod Rows
pub mod Drawn
pub mod Read
pub mod Opened
pub mod Calls
