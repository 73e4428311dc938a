-- The proofs of the claims of Note 9, and its examples, which antt computes.
pub mod Forms
pub mod Lines
pub mod Sheets
pub mod Examples
