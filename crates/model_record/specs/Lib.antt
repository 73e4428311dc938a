-- The record that a screen holds, the sheet of a record, and what is claimed of both.
pub mod Data
pub mod Record
pub mod Entry
pub mod Claims
pub mod Examples
