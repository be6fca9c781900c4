pub mod Bindings
pub mod Layout
pub mod ListBytes
pub mod Filter
pub mod Walk
