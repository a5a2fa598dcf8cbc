-- Undo: the laws that the proofs of its functions apply.
pub mod Laws
