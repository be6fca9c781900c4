-- Laws of rows of words, and of the loops over their columns.
pub mod Laws
pub mod MovedRows
