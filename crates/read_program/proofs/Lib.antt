-- The laws of the commands.
pub mod Laws
