pub mod ReadRows
pub mod ReadSections
