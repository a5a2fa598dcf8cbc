-- The float that a literal of the code is, by its word, as the rules have it, and plus infinity. Assumes nothing.
use Rattle.std.proofs.Common.{◌≡◌, false, refl}
use lib.Ieee.{Float, inf, binary32, binary64, of_bits, of_int, div}
use Rattle.leaves.specs.Arithmetic.{nought, one, half, count}

pub nought_word : of_bits binary32 0 ≡ nought
unfolding of_bits
nought_word = refl

pub half_word : of_bits binary32 1056964608 ≡ half
unfolding of_bits
half_word = refl

pub one_word : of_bits binary32 1065353216 ≡ one
unfolding of_bits
one_word = refl

pub two_word : of_bits binary32 1073741824 ≡ count 2
unfolding of_bits count of_int
two_word = refl

pub three_word : of_bits binary32 1077936128 ≡ count 3
unfolding of_bits count of_int
three_word = refl

-- 0.0 and 1.0 as an f64
pub nought_double : of_bits binary64 0 ≡ nought
unfolding of_bits
nought_double = refl

pub one_double : of_bits binary64 4607182418800017408 ≡ one
unfolding of_bits
one_double = refl

-- 1.0 / 0.0, as the code has it
abbrev pub unbounded : Float
unbounded = div binary32 (of_bits binary32 1065353216) (of_bits binary32 0)

pub plus_infinity : unbounded ≡ inf false
unfolding div of_bits
plus_infinity = refl
