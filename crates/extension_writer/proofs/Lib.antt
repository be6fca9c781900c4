pub mod Entries
pub mod Writes
pub mod Forward
pub mod Same
pub mod Words
pub mod AsReader
