-- The laws of texts that are put into lent memory.
pub mod Laws
