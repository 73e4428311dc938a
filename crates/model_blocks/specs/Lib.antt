-- Document 02, Note 5, as definitions in its order; then what is claimed of them.
pub mod Block
pub mod Dialect
pub mod Meaning
pub mod Agreement
pub mod Claims
pub mod Examples
