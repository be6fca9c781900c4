-- What the edits make of rows, members and entries.
pub mod KindRows
pub mod Views
pub mod Clearing
pub mod Changes
pub mod Cuts
pub mod ExporterLists
pub mod ObjectMembers
pub mod StoredCounts
