pub mod ClientDrop
pub mod Going
pub mod Settling
pub mod Staying
