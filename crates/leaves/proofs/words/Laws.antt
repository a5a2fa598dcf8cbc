-- Words and floats: which words are a NaN's, what `x != x` tells, the two comparisons of a sample in range and what
-- they tell, and a count. A law over a format serves both widths. Assumes nothing.
use Rattle.std.proofs.Common.{◌≡◌, ℕ, ◌+◌, ◌*◌, ◌%◌, ◌<◌, ◌≤◌, Bool, true, false, not, ◌&&◌, T, eqb, ltb, ℤ, pos, sym, refl, ap, ◌∙◌, inl, inr, arith, ltb-true, le-ltb, lt-ltb, eq-eqb, ne_eqb, eqb-true}
use mathlib.Core.Bool.{and-true, false≢true}
use lib.Ieee.{Float, nan, inf, fin, Format, binary32, binary64, up, down, level, ones, hid, top, neg, div, le, eq, ne}
use lib.Ieee.{is_nan, nan_bits, of_bits, to_bits, of_int, fits}
use lib.Ieee.Bits.{nan_bits_is, nan_bits_above, of_bits-fits}
use lib.Ieee.Fits.{down_pos}
use lib.Ieee.Scale.{finite}
use borrow.Author.Tests.{eqb-false}
use Rattle.leaves.specs.Arithmetic.{count, float}
use Rattle.leaves.specs.Floats.{magnitude, largest, in_range}
use Rattle.leaves.proofs.Choice.{both_hold, either}

-- ---- NaN

-- Every number equals itself, whatever its sign.
level_itself : (s : Bool) (a : ℕ) → level s a s a ≡ true
level_itself true a = rw (eq-eqb a a refl)
level_itself false a = rw (eq-eqb a a refl)

-- Only the NaN differs from itself, so `x != x` is the test for it.
pub nan_test : (x : Float) → is_nan x ≡ ne x x
unfolding is_nan ne
nan_test nan = refl
nan_test (inf true) = refl
nan_test (inf false) = refl
nan_test (fin s m e) = ap not (sym (level_itself s (m * up e * down e)))

-- A float equals itself where it is no NaN.
pub number_test : (x : Float) → eq x x ≡ not (is_nan x)
unfolding ne
number_test x = twice (eq x x) ∙ ap not (sym (nan_test x))
  where
    twice : (b : Bool) → b ≡ not (not b)
    twice true = refl
    twice false = refl

-- There is one NaN.
pub one_nan : (x : Float) → is_nan x ≡ true → x ≡ nan
unfolding is_nan
one_nan nan e = refl
one_nan (inf s) e = absurd (false≢true e)
one_nan (fin s m d) e = absurd (false≢true e)

-- A float that differs from itself has the NaN's word.
pub word_of_nan : (f : Format) (x : Float) → ne x x ≡ true → to_bits f nan ≡ to_bits f x
word_of_nan f x e = ap (to_bits f) (sym (one_nan x (nan_test x ∙ e)))

-- A float that does not differ from itself is no NaN.
pub no_nan : (x : Float) → ne x x ≡ false → T (not (is_nan x))
no_nan x e = rw (nan_test, e) tt

-- 0 / 0 is the NaN.
pub zero_by_zero : (f : Format) → div f (of_bits f 0) (of_bits f 0) ≡ nan
unfolding div of_bits
zero_by_zero binary32 = refl
zero_by_zero binary64 = refl

-- A word that is above the infinity's below its sign is a NaN's, and its float is what 0 / 0 gives.
pub nan_of_word : (f : Format) (w : ℕ) → ones f * hid f < w % top f → div f (of_bits f 0) (of_bits f 0) ≡ of_bits f w
nan_of_word f w h = zero_by_zero f ∙ sym (one_nan (of_bits f w) (sym (nan_bits_is f w) ∙ nan_bits_above f w ∙ lt-ltb _ _ h))

-- A word that is at most the infinity's below its sign is no NaN's.
pub no_nan_word : (f : Format) (w : ℕ) → w % top f ≤ ones f * hid f → T (not (nan_bits f w))
no_nan_word f w h = rw (nan_bits_above, le-ltb _ _ h) tt

-- ---- a sample in range

-- The test for equal numbers is the same either way round.
pub eqb_sym : (a b : ℕ) → eqb a b ≡ eqb b a
eqb_sym a b = go (eqb a b) refl
  where
    go : (t : Bool) → eqb a b ≡ t → t ≡ eqb b a
    go true e = sym (eq-eqb b a (sym (eqb-true a b e)))
    go false e = sym (ne_eqb b a (λ q. eqb-false a b e (sym q)))

-- At least -65,536 and at most 65,536: the code's two tests say that x is finite and that its magnitude is at most 65,536.
two_tests : (x : Float) → le (neg largest) x && le x largest ≡ finite x && le (magnitude x) largest
unfolding neg le
two_tests nan = refl
two_tests (inf true) = refl
two_tests (inf false) = refl
two_tests (fin true m e) =
    let a = m * up e * 1 in
    let b = 65536 * down e in
    rw (lt-ltb 0 (a + b) (omega (arith, down_pos e)), and-true (le (neg largest) (fin true m e)), eqb_sym b a)
two_tests (fin false m e) =
    let a = m * up e * 1 in
    let b = 65536 * down e in
    rw (lt-ltb 0 (b + a) (omega (arith, down_pos e)))

-- The same of a sample's float, by what the tests found. 65,536 is the float of the word 47800000.
pub sample_tests : {p q : Bool} (w : ℕ) (x : Float) → x ≡ of_bits binary32 w →
    le (neg (of_bits binary32 0x4780_0000)) x ≡ p → le x (of_bits binary32 0x4780_0000) ≡ q → p && q ≡ in_range w
unfolding in_range
sample_tests w x e p q = rw (← p, ← q, e) (two_tests (of_bits binary32 w))

-- A sample is in range where its float is finite and at most 65,536 in size.
pub range_is : (w : ℕ) → in_range w ≡ finite (float w) && le (magnitude (float w)) largest
unfolding in_range float
range_is w = refl

-- So both hold of a sample in range.
pub range_tells : (w : ℕ) → in_range w ≡ true → (finite (float w) ≡ true) × (le (magnitude (float w)) largest ≡ true)
range_tells w within = both_hold (finite (float w)) (le (magnitude (float w)) largest) (sym (range_is w) ∙ within)

-- A number without a sign that is at most 65,536, as a fraction.
pub at_most_largest : (m : ℕ) (e : ℤ) → le (fin false m e) largest ≡ true → m * up e ≤ 65536 * down e
unfolding le
at_most_largest m e h = elim (either (ltb (m * up e * 1) (65536 * down e)) _ h) [
  | inl l ↦ omega (arith, ltb-true (m * up e * 1) (65536 * down e) l)
  | inr q ↦ omega (arith, eqb-true (m * up e * 1) (65536 * down e) (both_hold _ _ q).0)
]

-- The float of a word fits.
pub word_fits : (w : ℕ) → T (fits binary32 (float w))
unfolding float
word_fits w = of_bits-fits binary32 w

-- a count, as the library rounds it
pub count_is : (n : ℕ) (x : Float) → x ≡ of_int binary32 (pos n) → x ≡ count n
unfolding count
count_is n x e = e
