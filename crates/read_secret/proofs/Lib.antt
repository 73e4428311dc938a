-- The laws of one secret.
pub mod Laws
