-- The calls, and the demands of them.
pub mod Calls
pub mod Refusals
pub mod Demands
pub mod Several
pub mod EitherOrder
pub mod Table
