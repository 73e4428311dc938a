-- The laws of what is written for an export.
pub mod Laws
