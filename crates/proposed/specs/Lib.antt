pub mod Proposed
pub mod Gamma
pub mod Consequences
pub mod Inner
pub mod Examples
