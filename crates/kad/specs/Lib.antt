pub mod Kad
pub mod Reading
pub mod Rules
pub mod Pointing
pub mod Writing
