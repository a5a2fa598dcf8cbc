pub mod Values
pub mod Chunks
pub mod Wav
pub mod Inner
pub mod Consequences
pub mod Examples
