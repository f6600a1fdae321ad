pub mod Kinds
pub mod Requests
pub mod Replies
pub mod Ordered
pub mod Claims
