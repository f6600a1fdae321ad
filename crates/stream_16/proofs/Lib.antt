pub mod Lending
pub mod Obeying
pub mod Serving
pub mod Settled
