pub mod Verdicts
pub mod Forms
pub mod Entries
pub mod Files
pub mod Soundness
pub mod Claims
