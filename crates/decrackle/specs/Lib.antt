pub mod Decrackle
pub mod Consequences
