-- What is proved of Note 1.
pub mod Examples
pub mod Passed
pub mod Rows
pub mod Keys
pub mod Fields
pub mod Held
pub mod Refusals
pub mod Lines
