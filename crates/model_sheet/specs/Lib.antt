-- The sheet that says a job, and what is claimed of reading and writing it; examples.
pub mod Sheet
pub mod Claims
pub mod Examples
