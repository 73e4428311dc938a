-- Words tells a word by its number, Laws takes the parts of a line apart.
pub mod Words
pub mod Laws
