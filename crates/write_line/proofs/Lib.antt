-- The laws of what is written into a memory.
pub mod Laws
