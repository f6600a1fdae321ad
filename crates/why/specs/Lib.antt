pub mod Touches
pub mod Causes
pub mod Reasons
pub mod Watching
pub mod Deeds
pub mod Truths
pub mod Claims
