-- The laws of rows, keys and fields, in the form in which a loop meets them.
pub mod Scan
pub mod Rows
pub mod Fields
pub mod Further
pub mod Named
