pub mod Rooms
pub mod Showing
