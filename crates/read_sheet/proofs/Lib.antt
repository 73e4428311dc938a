-- The laws of a whole sheet.
pub mod Laws
pub mod Answers
