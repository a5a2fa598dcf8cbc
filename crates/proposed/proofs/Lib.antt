-- Laws of a proposal's rule, and what follows from it.
pub mod Laws
pub mod Consequences
pub mod Gamma
