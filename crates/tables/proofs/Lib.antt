pub mod Same
pub mod Layers
pub mod Cells
pub mod Checks
pub mod Files
pub mod Filed
pub mod Unique
pub mod Writes
