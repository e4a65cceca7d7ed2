pub mod Values
pub mod Machine
pub mod Complete
pub mod Sound
pub mod Shortest
pub mod Temporal
