pub mod Walks
pub mod TextBlocks
