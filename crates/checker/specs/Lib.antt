pub mod Presses
pub mod Formed
pub mod Answer
pub mod Endless
pub mod Descriptions
