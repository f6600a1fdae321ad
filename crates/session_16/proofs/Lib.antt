pub mod Sessions
pub mod Playing
pub mod Replaying
pub mod Settled
