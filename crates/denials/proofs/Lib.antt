pub mod Shifts
pub mod Pushing
pub mod Counting
pub mod Seeking
pub mod Filling
pub mod Ranges
pub mod Telling
