-- Bits of words, and what the functions over members make.
pub mod Bits
pub mod WordBits
pub mod Making
pub mod Ones
