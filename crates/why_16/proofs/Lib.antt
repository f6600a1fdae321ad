pub mod Following
pub mod Settled
