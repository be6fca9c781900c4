pub mod Expiring
pub mod Removing
