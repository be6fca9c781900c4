pub mod ArrayWalk
pub mod Back
