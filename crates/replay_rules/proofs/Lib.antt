pub mod Agreeing
pub mod Running
pub mod Buffers
pub mod Bounds
pub mod Cases
pub mod Lengths
pub mod Ours
pub mod Recovering
