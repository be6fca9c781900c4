-- Members counted.
pub mod MemberSum
