-- A list of spans as it is repaired, and what it comes to; two gaps in either order, and a list in any.
pub mod Laws
pub mod InTurn
pub mod EitherOrder
pub mod AnyOrder
