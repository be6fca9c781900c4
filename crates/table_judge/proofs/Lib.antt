-- What the judgement's clauses say, by column and by row.
pub mod LiveChecks
pub mod Clauses
