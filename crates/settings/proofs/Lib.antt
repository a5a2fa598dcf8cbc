-- Laws of stored settings: the words of settings, the bytes of a block, and what follows from the rules.
pub mod Patterns
pub mod Block
pub mod Storing
pub mod Keeping
pub mod Consequences
pub mod BothWays
