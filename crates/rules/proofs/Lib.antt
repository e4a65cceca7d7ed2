pub mod Tables
pub mod Reduce
pub mod Steps
pub mod Ends
pub mod Texts
pub mod Theorems
