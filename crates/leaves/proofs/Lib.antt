-- Laws on numbers, lists and floats that several proofs, here and in the crates above, cite.
pub mod Choice
pub mod Numbers
pub mod Lists
pub mod Parts
pub mod Stores
pub mod Values
pub mod Rounding
pub mod Comparing
pub mod Literals
