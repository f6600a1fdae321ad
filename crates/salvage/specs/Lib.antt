pub mod Salvage
pub mod Reports
pub mod Saved
pub mod Claims
