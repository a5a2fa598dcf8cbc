pub mod Several
pub mod Consequences
pub mod EitherOrder
pub mod AnyOrder
