pub mod Program
pub mod Stretches
pub mod Files
pub mod Examples
