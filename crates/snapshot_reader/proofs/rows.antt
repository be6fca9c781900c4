-- What rows hold, which fit, and the walk over the members of a set.
pub mod RowFields
pub mod SectionFits
pub mod Reading
pub mod Walk
