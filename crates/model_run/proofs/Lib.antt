-- The proofs about the run.
pub mod Examples
pub mod Levels
pub mod Message
pub mod Turn
pub mod Counted
pub mod Lockstep
pub mod Line
pub mod Secrecy
pub mod Witness
pub mod CallKinds
pub mod Clamped
pub mod Plain
pub mod Owners
pub mod Honest
pub mod HonestExamples
