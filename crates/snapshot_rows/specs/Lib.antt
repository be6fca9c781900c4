pub mod Writing
pub mod Keys
pub mod Rows
