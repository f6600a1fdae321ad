pub mod Judging
pub mod Faulted
