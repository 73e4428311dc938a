-- The laws by which the entries meet their contracts.
pub mod Laws
pub mod Texts
