-- The laws of pairs that the crates above cite.
pub mod Laws
