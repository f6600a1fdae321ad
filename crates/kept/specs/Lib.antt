pub mod Worded
pub mod Sent
