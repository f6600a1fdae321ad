pub mod Changes
pub mod Telling
pub mod ByWords
pub mod Worked
