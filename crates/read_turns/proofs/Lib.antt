-- The laws of the line `turns`.
pub mod Laws
