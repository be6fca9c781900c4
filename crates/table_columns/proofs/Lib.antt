pub mod Chains
pub mod Loops
pub mod Moves
pub mod GuidColumns
pub mod Passing
