pub mod Lengths
pub mod Releases
pub mod Sender
pub mod Finding
pub mod Words
pub mod Worked
pub mod Mixtures
