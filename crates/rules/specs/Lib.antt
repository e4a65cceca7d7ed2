pub mod Parts
pub mod Rules
pub mod Refusal
pub mod Reading
pub mod Laws
