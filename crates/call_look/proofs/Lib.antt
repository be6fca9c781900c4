pub mod Stopping
pub mod Taking
