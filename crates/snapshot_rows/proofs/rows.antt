-- The bytes of entries.
pub mod FieldByField
pub mod MembersInOrder
