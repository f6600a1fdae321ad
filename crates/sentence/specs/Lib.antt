pub mod Telling
pub mod Claims
