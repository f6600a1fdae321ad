pub mod Settled
pub mod Taking
