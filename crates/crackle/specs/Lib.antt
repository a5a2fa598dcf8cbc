pub mod Pieces
pub mod Kept
pub mod Consequences
pub mod Cuts
pub mod Inner
pub mod Examples
