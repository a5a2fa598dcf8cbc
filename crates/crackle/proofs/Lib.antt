-- What the proofs of this crate cite: how many flags come when, the laws of the steps of the code, by value and in words, and what follows from the
-- rules.
pub mod Due
pub mod Judging
pub mod Steps
pub mod Keeping
pub mod Consequences
pub mod Places
pub mod Cuts
pub mod Words
