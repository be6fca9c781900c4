pub mod Lists
pub mod Guids
pub mod Order
