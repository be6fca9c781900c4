pub mod Replies
pub mod Sections
