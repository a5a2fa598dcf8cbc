-- What the proofs of this crate cite: floats without a sign, where the floor starts, the flags, the ends, the curves, the drawing of it all and the call, and
-- what follows from the rules.
pub mod Signs
pub mod Opening
pub mod Flags
pub mod Ends
pub mod Curves
pub mod Drawing
pub mod Consequences
