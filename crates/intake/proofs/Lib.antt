-- Laws of reading to a space: what a reader gave in turn stands one behind the other.
pub mod Filling
