pub mod Dequant
pub mod Consequences
