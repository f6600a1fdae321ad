pub mod Quietly
pub mod Worked
