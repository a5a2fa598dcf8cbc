-- Samples of 16 bits and samples as words: request P12 of document 02, whose sentences the comments quote. Definitions only.
use Rattle.std.specs.Prelude.{ℕ, ◌-◌, Bool, true, false, pos, nat_le, Float}
use Rattle.std.specs.Float.{fin, binary32}
use Rattle.std.specs.Float.Ieee.{round, mul, lt, neg, to_bits, to_unsigned}
use Rattle.std.specs.Prelude.{if◌then◌else◌}
use Rattle.leaves.specs.Arithmetic.{nought, float, ◌*₃₂◌}
use Rattle.leaves.specs.Floats.{rounded, held}

-- ---- Reading

-- so many values 16 bits have; the upper half of them, from 32,768 on, are below zero: 65,535 is -1, and 32,768 is -32,768
abbrev pub all_values : ℕ
all_values = 65536

abbrev pub below_zero : ℕ → Bool
below_zero v = nat_le 32768 v

-- how large a value is, without its sign
abbrev pub size_of : ℕ → ℕ
size_of v = if below_zero v then all_values - v else v

-- "sample v becomes exactly v/32768": the f32 nearest to that, which is just that (`ExactlyThat` of Consequences.antt)
unfoldable pub sample_of : ℕ → Float
unfolding round
sample_of v = round binary32 (below_zero v) (size_of v) 32768

-- its word
unfoldable pub sample_word : ℕ → ℕ
unfolding sample_of to_bits
sample_word v = to_bits binary32 (sample_of v)

-- ---- Writing: "sample times 32768, rounded to whole with halves away from zero, held to −32768..32767"

-- 32,768, as 1 * 2 ^ 15, and the two ends
abbrev pub scale : Float
scale = fin false 1 (pos 15)

abbrev pub least : Float
least = fin true 1 (pos 15)

abbrev pub most : Float
most = fin false 32767 (pos 0)

unfoldable pub whole_of : ℕ → Float
unfolding float mul rounded held
whole_of w = held least most (rounded (float w *₃₂ scale))

-- a whole number in 16 bits: one below zero is 65,536 more (`to_unsigned 64` is one that is not below zero, as a number of 64 bits)
unfoldable pub in_sixteen : Float → ℕ
unfolding lt neg to_unsigned
in_sixteen x = if lt x nought then all_values - to_unsigned 64 (neg x) else to_unsigned 64 x

-- the value of a sample
unfoldable pub value_of : ℕ → ℕ
unfolding whole_of in_sixteen
value_of w = in_sixteen (whole_of w)
