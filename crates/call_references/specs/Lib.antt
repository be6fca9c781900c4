pub mod Dropping
pub mod Replies
