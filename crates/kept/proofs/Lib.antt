pub mod Near
pub mod Freed
pub mod Kept
pub mod Calls
pub mod Runs
pub mod Brought
pub mod Sent
pub mod Records
