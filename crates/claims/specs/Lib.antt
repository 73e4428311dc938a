-- The demands of document 01 and the claims of document 02's Notes, of what the C entries return and leave; and the index
-- of every claim, by document and Note.
pub mod Index
pub mod Demands
pub mod Log
pub mod Blocks
pub mod Record
pub mod Change
pub mod Forms
