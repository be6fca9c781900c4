-- Absence and distinctness by buckets.
pub mod Absence
