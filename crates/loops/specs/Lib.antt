pub mod States
pub mod Formed
pub mod Answer
