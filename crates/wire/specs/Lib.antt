pub mod Numbers
pub mod Bits
pub mod Buffers
pub mod Rules
pub mod Tried
pub mod Parts
