pub mod NextStop
pub mod Replies
