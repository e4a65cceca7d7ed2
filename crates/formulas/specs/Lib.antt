pub mod Formula
pub mod Sign
pub mod Grammar
pub mod Written
pub mod Table
