-- Laws of a contents table: what its rows tell, and what follows from its rules.
pub mod Rows
pub mod Consequences
