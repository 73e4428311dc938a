-- The laws of lines and phases that the crates above cite.
pub mod Laws
