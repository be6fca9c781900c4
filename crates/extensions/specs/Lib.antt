pub mod Extensions
pub mod Statements
