pub mod Due
pub mod Saved
pub mod Same
pub mod Replayed
pub mod Saving
pub mod Reading
pub mod Worked
