pub mod Figures
pub mod Absent
pub mod Left
pub mod Putting
pub mod Lengths
pub mod Example
