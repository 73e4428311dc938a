-- The laws of the `msg` lines, of loops over what an iterator yields, and of refusals that get the number of their line.
pub mod Laws
pub mod Items
