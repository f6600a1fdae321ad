pub mod OneByOne
pub mod Records
pub mod Folds
pub mod Cut
pub mod Replayed
pub mod Worked
