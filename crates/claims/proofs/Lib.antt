-- The proofs of the demands and of the claims.
pub mod Index
pub mod Demands
pub mod Log
pub mod Blocks
pub mod Record
pub mod Change
pub mod Forms
