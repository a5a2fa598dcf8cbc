pub mod Model
pub mod Order
pub mod Examples
pub mod Areas
