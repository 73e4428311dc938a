-- What the contracts cite beyond the model: a word as one number, and what the answers stand for.
pub mod Code
pub mod Command
