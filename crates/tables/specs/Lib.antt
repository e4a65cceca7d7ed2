pub mod Table
pub mod Layers
pub mod Drawings
pub mod Cells
pub mod Files
pub mod Takes
pub mod Writes
