pub mod Kinds
pub mod Asking
pub mod Quiet
