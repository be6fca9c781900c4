pub mod Moved
pub mod Guids
pub mod Buckets
pub mod Rows
pub mod Members
pub mod Order
