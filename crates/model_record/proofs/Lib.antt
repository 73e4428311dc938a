-- The proofs of what is claimed of a record and its sheet.
pub mod Lists
pub mod Pairs
pub mod Secrets
pub mod Commands
pub mod Entries
pub mod Letters
pub mod Passing
pub mod Sound
pub mod Said
pub mod Made
pub mod Back
pub mod Places
pub mod Record
pub mod Examples
