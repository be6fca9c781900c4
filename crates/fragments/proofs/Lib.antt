pub mod Bytewise
pub mod Following
pub mod Before
pub mod Rest
pub mod Ending
