-- Laws of the pass.
pub mod Laws
