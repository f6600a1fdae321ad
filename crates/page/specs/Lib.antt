pub mod Fields
pub mod Rules
pub mod Check
pub mod Pointing
pub mod Faults
pub mod Byte5
