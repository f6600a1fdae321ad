pub mod Answers
pub mod Folds
pub mod Sessions
pub mod Records
pub mod Claims
