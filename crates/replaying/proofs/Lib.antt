pub mod Going
pub mod Telling
pub mod Looping
