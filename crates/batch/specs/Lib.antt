pub mod Batches
pub mod Due
pub mod Joining
pub mod Claims
