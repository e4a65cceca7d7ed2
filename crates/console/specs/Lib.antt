pub mod Lines
pub mod Answers
pub mod Rooms
pub mod Laws
