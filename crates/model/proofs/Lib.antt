-- The proofs about the model.
pub mod Parsed
pub mod Handed
pub mod Placed
pub mod Decimal
pub mod Stored
pub mod Ready
pub mod Forms
pub mod Accepted
pub mod Refused
pub mod Written
pub mod Classes
pub mod Opened
pub mod Owners
