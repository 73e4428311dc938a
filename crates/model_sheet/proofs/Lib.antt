-- Reading a sheet and writing the sheet that says a job are inverse. What is read is written as it stood, from the digits of a number up to the sheet; of the
-- other direction here is what crate model_text has not: the first lines, the secrets, the letters, and the sheet as a whole.
pub mod Passed
pub mod Numbers
pub mod Texts
pub mod Commands
pub mod Pairs
pub mod Turns
pub mod Phases
pub mod Secrets
pub mod Lines
pub mod Short
pub mod Sheet
pub mod Examples
