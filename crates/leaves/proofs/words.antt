-- The laws of words and floats that the proofs of `src/words.rt` and of the crates above cite.
pub mod Laws
