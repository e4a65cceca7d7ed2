pub mod Sets
pub mod Stepping
pub mod Verdicts
pub mod Endless
