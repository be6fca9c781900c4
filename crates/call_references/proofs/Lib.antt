pub mod TwoCounts
pub mod Dropping
pub mod Releasing
