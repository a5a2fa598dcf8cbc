pub mod Declip
pub mod Consequences
