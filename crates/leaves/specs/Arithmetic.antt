-- The signs that the rules of a repair are written with: one operation of IEEE 754 each, at binary32 and at binary64, rounded
-- once to nearest. Definitions only.
use Rattle.std.specs.Prelude.{ℕ, false, List, pos, negsuc, slice_index_or, Float}
use Rattle.std.specs.Float.{nan, fin, Format, binary32, binary64}
use Rattle.std.specs.Float.Ieee.{minus, of_bits, of_int, round, add, sub, mul, div}

infixl 65 ◌+₃₂◌ ◌-₃₂◌ ◌+₆₄◌ ◌-₆₄◌
infixl 70 ◌*₃₂◌ ◌/₃₂◌ ◌*₆₄◌ ◌/₆₄◌
abbrev pub ◌+₃₂◌ : Float → Float → Float
◌+₃₂◌ = add binary32

abbrev pub ◌-₃₂◌ : Float → Float → Float
◌-₃₂◌ = sub binary32

abbrev pub ◌*₃₂◌ : Float → Float → Float
◌*₃₂◌ = mul binary32

abbrev pub ◌/₃₂◌ : Float → Float → Float
◌/₃₂◌ = div binary32

abbrev pub ◌+₆₄◌ : Float → Float → Float
◌+₆₄◌ = add binary64

abbrev pub ◌-₆₄◌ : Float → Float → Float
◌-₆₄◌ = sub binary64

abbrev pub ◌*₆₄◌ : Float → Float → Float
◌*₆₄◌ = mul binary64

abbrev pub ◌/₆₄◌ : Float → Float → Float
◌/₆₄◌ = div binary64

-- +0, 1 and 1 / 2, which both formats hold
abbrev pub nought : Float
nought = fin false 0 (pos 0)

abbrev pub one : Float
one = fin false 1 (pos 0)

abbrev pub half : Float
half = fin false 1 (negsuc 0)

infixl 70 ◌/2^◌
-- m / 2 ^ k, exactly, as rows that are computed have it
abbrev pub ◌/2^◌ : ℕ → ℕ → Float
m /2^ k = fin false m (minus 0 k)

-- the float of a format that is nearest to a / b, for b above 0: so 1e-6 in an f64 is `near binary64 1 1000000`
unfoldable pub near : Format → ℕ → ℕ → Float
unfolding round
near f a b = round f false a b

-- the float of a sample, and of a whole number, in f32
unfoldable pub float : ℕ → Float
unfolding of_bits
float w = of_bits binary32 w

unfoldable pub count : ℕ → Float
unfolding of_int
count n = of_int binary32 (pos n)

-- what stands at place i of a list of floats
abbrev pub at : List Float → ℕ → Float
at l i = slice_index_or l i nan
