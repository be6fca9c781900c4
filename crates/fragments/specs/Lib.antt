pub mod Fragments
pub mod Rest
