pub mod Loading
pub mod Owned
pub mod RoundTrip
pub mod Settled
