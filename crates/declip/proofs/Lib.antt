-- Laws of cubic declip: its steps, as the code takes them, and what follows from its rules.
pub mod Laws
pub mod Consequences
