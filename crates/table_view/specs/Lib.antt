pub mod View
pub mod Counts
pub mod Sizes
pub mod FreePlaces
pub mod Placed
pub mod Fitting
pub mod Hints
