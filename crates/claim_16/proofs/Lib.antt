pub mod Tallying
pub mod Settled
