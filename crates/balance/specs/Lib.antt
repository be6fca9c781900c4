pub mod Balance
pub mod Sides
