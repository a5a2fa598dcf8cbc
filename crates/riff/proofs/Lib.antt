-- What the walk over chunks finds, the reader, samples of 16 bits, the writer, and both ways: the laws that the functions' proofs apply, and
-- the statements of specs/Consequences.antt.
pub mod Walk
pub mod Values
pub mod Reading
pub mod Writing
pub mod BothWays
