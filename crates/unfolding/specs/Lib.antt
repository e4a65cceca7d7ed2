pub mod Breaks
pub mod Presses
pub mod Pushed
pub mod Nodes
pub mod Law
pub mod Smallest
pub mod Flat
pub mod Worked
