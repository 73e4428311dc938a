-- What is proved of Note 5.
pub mod Examples
pub mod Translated
pub mod Behind
pub mod Own
pub mod DoLines
pub mod Left
pub mod Agreement
pub mod Taken
pub mod Read
pub mod Texts
pub mod Within
pub mod Sheet
pub mod Refusals
pub mod Cases
