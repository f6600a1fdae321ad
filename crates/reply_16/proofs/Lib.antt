pub mod Giving
pub mod Tools
pub mod Settled
