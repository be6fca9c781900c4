pub mod References
pub mod Parts
