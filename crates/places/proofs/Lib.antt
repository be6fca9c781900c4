pub mod Inside
pub mod Lengths
