-- The banded equations: laws that its functions share.
pub mod Laws
