pub mod Replay
pub mod Statements
pub mod Recovering
pub mod Cases
