pub mod Sums
pub mod Nine
pub mod Balanced
pub mod Sides
