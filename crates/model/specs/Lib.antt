-- Document 01 as definitions, in its order, up to the job that a sheet says, with the numbers of its answer and what
-- document 02 shares with it; then what is claimed of accepted sheets, of written texts and of the class that Note 6
-- keeps, and how the sheets of Note 8 are read. The run is in `model_run`.
pub mod RunAnswer
pub mod Data
pub mod Limits
pub mod Parsed
pub mod Refusal
pub mod Text
pub mod Placed
pub mod Number
pub mod Decimal
pub mod Phase
pub mod Pair
pub mod Head
pub mod Command
pub mod Program
pub mod Messages
pub mod Turns
pub mod Job
pub mod Stored
pub mod Execution
pub mod Form
pub mod Sheet
pub mod Answer
pub mod Written
pub mod Accepted
pub mod SheetA
pub mod SheetTwo
pub mod Owners
pub mod Classes
