pub mod Refusals
pub mod Spans
pub mod Alone
pub mod Demands
pub mod Several
pub mod EitherOrder
