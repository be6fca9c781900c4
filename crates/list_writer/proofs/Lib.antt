pub mod Rows
pub mod Making
pub mod Written
