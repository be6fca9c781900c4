pub mod Noting
pub mod Laws
pub mod Guids
