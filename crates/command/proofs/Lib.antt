pub mod Requests
pub mod Ordered
pub mod Replies
pub mod Worked
