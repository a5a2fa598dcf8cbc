pub mod Reading
pub mod Scanning
