-- The laws of the first lines.
pub mod Laws
