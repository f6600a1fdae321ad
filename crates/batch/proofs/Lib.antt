pub mod Worked
pub mod Due
pub mod Batched
pub mod InARow
pub mod Joined
pub mod Replays
pub mod Unformed
