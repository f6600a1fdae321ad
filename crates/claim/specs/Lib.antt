pub mod Writes
pub mod Rows
pub mod Lines
pub mod Making
pub mod Files
pub mod Claimable
pub mod Reading
pub mod Claims
