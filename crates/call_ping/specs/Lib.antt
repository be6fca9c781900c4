pub mod Pinging
pub mod Replies
