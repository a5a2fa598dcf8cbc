pub mod Settings
pub mod Counts
pub mod Consequences
pub mod Examples
