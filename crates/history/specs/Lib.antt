pub mod History
pub mod Runs
pub mod Orders
pub mod Swapping
pub mod Removing
pub mod Time
