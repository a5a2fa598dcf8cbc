pub mod Arithmetic
pub mod Floats
pub mod Root
pub mod Steps
