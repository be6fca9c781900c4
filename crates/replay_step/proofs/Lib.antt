pub mod Alike
pub mod Doing
