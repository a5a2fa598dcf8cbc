-- Laws of what the programs share: the scan that the code makes, and that the journal and the workspace suffice.
pub mod Scanning
pub mod Suffices
