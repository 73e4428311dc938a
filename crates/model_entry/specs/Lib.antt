-- The contracts of the C entries. What is claimed of them is in the crate `claims`.
pub mod Entry
pub mod Texts
