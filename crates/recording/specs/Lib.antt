pub mod Recording
pub mod Places
pub mod Whole
pub mod Statements
pub mod Torn
pub mod Cases
pub mod Forms
