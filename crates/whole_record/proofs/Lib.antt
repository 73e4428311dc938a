-- The laws of saving a record and of opening a sheet.
pub mod Laws
