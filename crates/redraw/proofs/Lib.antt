-- What the repairs over the whole recording cite: their workspace, the runs of a test, and how such a repair ends.
pub mod Workspace
pub mod Flags
pub mod Runs
pub mod Ending
