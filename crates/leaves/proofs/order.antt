-- The laws of magnitude and order that the proofs of `src/order.rt` and of the crates above cite.
pub mod Laws
