pub mod Record
pub mod Updates
pub mod Selecting
pub mod WellFormed
pub mod Words
