pub mod Known
pub mod Outcomes
pub mod Settled
