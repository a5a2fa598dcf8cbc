-- The square root: the laws on whole numbers, on scales, that meaning and function agree, and the way from a double to
-- its digits and back.
pub mod Squares
pub mod Scales
pub mod Agree
pub mod Edges
pub mod Steps
