-- What is found in a text; the texts that are written for a sheet, what is claimed of reading them, and the form of
-- examples.
pub mod Found
pub mod Text
pub mod Pasted
pub mod Examples
