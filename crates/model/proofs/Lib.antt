-- Laws that the stages of the model share.
pub mod Parts
pub mod Passes
pub mod Orders
