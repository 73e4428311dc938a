-- Document 02, Note 9, "Old sheets to new and back", as definitions; then what is claimed of them.
pub mod Forms
pub mod Claims
pub mod Examples
