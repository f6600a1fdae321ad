pub mod Fits
pub mod Names
pub mod Ways
pub mod Worked
