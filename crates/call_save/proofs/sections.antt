-- Sections of a snapshot.
pub mod SectionRows
