-- Laws of the work on files: the scan at a file's own rate, that the journal and the workspace suffice,
-- and what is told of a file.
pub mod Scanning
pub mod Limits
pub mod Suffices
pub mod Program
