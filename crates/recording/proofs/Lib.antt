pub mod Entries
pub mod Runs
pub mod Files
pub mod Exactly
pub mod Events
pub mod Made
pub mod Worked
