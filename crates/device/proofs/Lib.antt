pub mod Selecting
pub mod Scopes
pub mod WellFormed
pub mod Worked
pub mod Settled
