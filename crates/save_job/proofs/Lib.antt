-- Laws that the proofs of this crate's functions cite, and those of the requests that rest on it.
pub mod Laws
