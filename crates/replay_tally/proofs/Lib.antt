pub mod Wrapping
pub mod Summed
