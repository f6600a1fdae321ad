pub mod Writing
pub mod Settled
