-- The run of a job: document 01's arithmetic, commands, executions, message, turns and endings, with the rule of document
-- 02's Note 2 in the turn; then what is claimed of it, of the plain run of Note 4, and of clamped results.
pub mod Data
pub mod Arith
pub mod Step
pub mod Process
pub mod Line
pub mod State
pub mod Message
pub mod Verdict
pub mod Run
pub mod Whole
pub mod Secrecy
pub mod Counted
pub mod Examples
pub mod Witness
pub mod CallKinds
pub mod Clamped
pub mod Plain
pub mod Owners
pub mod Honest
pub mod HonestExamples
