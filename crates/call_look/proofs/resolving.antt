-- What the proofs of a resolve use.
pub mod FilteredReplies
pub mod Resolving
