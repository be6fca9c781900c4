pub mod Index
pub mod ItemSteps
pub mod Loop
pub mod Unknown
