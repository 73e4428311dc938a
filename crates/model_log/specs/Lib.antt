-- Document 02, Note 1, as definitions in its order; then what is claimed of them.
pub mod Log
pub mod Examples
pub mod Claims
