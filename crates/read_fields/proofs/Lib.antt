-- The laws of what a count covers, and of the table of words.
pub mod Laws
pub mod Words
