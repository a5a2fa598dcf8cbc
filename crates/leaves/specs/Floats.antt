-- The float leaves, in the words of document 01 where a comment quotes it, over the kit's account of IEEE 754 (`lib.Ieee`).
-- There a float is `nan`, `inf s` or `fin s m e`: the number m * 2 ^ e, negative where s is true. 2 ^ e is the fraction
-- `up e / down e`, and `round f s a b` is the float of the format f nearest to a / b, with the sign s, a tie going to the
-- even one; `finite` is true of all but `nan` and the infinities. One definition serves both formats. Widening has none:
-- the number stays what it is. Definitions only.
use Rattle.std.specs.Prelude.{ℕ, ◌+◌, ◌*◌, ◌/◌, Bool, false, ◌&&◌, pos, Float}
use Rattle.std.specs.Float.{nan, inf, fin, binary32}
use Rattle.std.specs.Float.Ieee.{round, up, down, lt, le, is_nan, of_bits}
use Rattle.std.specs.Float.Ieee.Scale.{finite}
use Rattle.std.specs.Prelude.{if◌then◌else◌}

-- "magnitude": the number without its sign
abbrev pub magnitude : Float → Float
magnitude nan = nan
magnitude (inf s) = inf false
magnitude (fin s m e) = fin false m e

-- 65,536, as 1 * 2 ^ 16
abbrev pub largest : Float
largest = fin false 1 (pos 16)

-- "A sample is in range if finite and of magnitude at most 65,536." A sample is a word of 32 bits, the pattern of an f32.
unfoldable pub in_range : ℕ → Bool
unfolding of_bits le
in_range w = finite (of_bits binary32 w) && le (magnitude (of_bits binary32 w)) largest

-- "narrow to nearest, ties to even": the number is rounded once, to binary32.
unfoldable pub narrowed : Float → Float
unfolding round
narrowed nan = nan
narrowed (inf s) = inf s
narrowed (fin s m e) = round binary32 s (m * up e) (down e)

-- "round to whole, halves away from zero": without its sign, a / b becomes the whole part of a / b + 1 / 2, which is
-- (2 * a + b) / (2 * b). The sign stays, also of a zero. `round` changes nothing there, since an f32 holds that number
-- (`rounded_whole` of proofs/whole/Laws.antt).
unfoldable pub rounded : Float → Float
unfolding round
rounded nan = nan
rounded (inf s) = inf s
rounded (fin s m e) = round binary32 s ((2 * (m * up e) + down e) / (2 * down e)) 1

-- "larger and smaller of two as in Rust (a NaN loses to a number; of two equals the first is given)"
unfoldable pub larger : Float → Float → Float
unfolding lt is_nan
larger a b = if is_nan a then b else if lt a b then b else a

unfoldable pub smaller : Float → Float → Float
unfolding lt is_nan
smaller a b = if is_nan a then b else if lt b a then b else a

-- "held to" low .. high, as Rust's `clamp`: x, or the end that it lies beyond. A NaN lies beyond neither.
unfoldable pub held : Float → Float → Float → Float
unfolding lt
held low high x = if lt x low then low else if lt high x then high else x
