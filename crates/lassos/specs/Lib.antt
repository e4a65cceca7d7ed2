pub mod Lasso
pub mod Truth
pub mod Word
pub mod Bytes
pub mod Worked
