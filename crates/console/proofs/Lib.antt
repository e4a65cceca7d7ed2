pub mod Cutting
pub mod Splitting
pub mod Serves
pub mod Rooms
pub mod Answering
pub mod Unique
