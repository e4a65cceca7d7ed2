pub mod Signs
pub mod Debts
pub mod Meaning
