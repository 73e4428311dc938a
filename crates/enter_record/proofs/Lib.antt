-- A law that the proofs of this crate cite.
pub mod Laws
pub mod LentJob
