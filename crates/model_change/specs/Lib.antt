-- A sheet that is read, changed and written again: one definition for every request of this kind, and one law.
pub mod Change
pub mod Claims
pub mod Changed
