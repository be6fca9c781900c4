-- The sections one after the other are the entries of a snapshot.
pub mod RowByRow
pub mod Entries
pub mod Refused
