pub mod Good
pub mod Worked
