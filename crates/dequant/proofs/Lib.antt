-- What follows from the rules of dequantize.
pub mod Consequences
