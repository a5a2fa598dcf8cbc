pub mod Contents
pub mod Consequences
