-- What the proofs of several functions use.
mod Words
mod Lines
mod Kept
mod Goes
mod Items
mod Cycle
mod Whole
