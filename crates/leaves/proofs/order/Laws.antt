-- Magnitude and order: what the code's tests tell of the magnitude of a float, of the larger and the smaller of two,
-- and of a float held to a span. A law over any float, or over a format, serves both widths. Assumes nothing.
use Rattle.std.proofs.Common.{◌≡◌, ℕ, zero, suc, ◌+◌, ◌*◌, Bool, true, false, not, cond, ℤ, pos, Option, Some, None, Ordering, Less, Equal, Greater, is_lt, sym, refl, ap, ◌∙◌, true≢false, zero-lt-suc, mul-pos, arith, le-ltb, lt-ltb, eq-eqb, ne_eqb}
use lib.Ieee.{Float, nan, inf, fin, up, down, lt, eq, ne}
use lib.Ieee.Fits.{up_pos}
use Rattle.leaves.specs.Floats.{magnitude, larger, smaller, held}
use Rattle.std.specs.Ordering.{float_partial_cmp, is_some_and}
use Rattle.std.specs.Float.{float_with_sign}
use Rattle.leaves.proofs.words.Laws.{nan_test}

-- ---- how a number compares with 0.0, the float of the word 0

-- the zero without a sign
abbrev pub plain_zero : Float
plain_zero = fin false 0 (pos 0)

-- Either zero equals zero, and is not below it.
pub zero_level : (s : Bool) (e : ℤ) → eq (fin s zero e) plain_zero ≡ true
unfolding eq
zero_level true e = rw (eq-eqb (0 * up e * 1) (0 * down e) (omega arith), eq-eqb (0 * up e * 1) 0 (omega arith))
zero_level false e = rw (eq-eqb (0 * up e * 1) (0 * down e) (omega arith))

pub zero_not_below : (s : Bool) (e : ℤ) → lt (fin s zero e) plain_zero ≡ false
unfolding lt
zero_not_below true e = le-ltb 0 (0 * up e * 1 + 0 * down e) (omega arith)
zero_not_below false e = le-ltb (0 * up e * 1) (0 * down e) (omega arith)

-- No other number equals it; one with a sign is below it, and one without is not.
pub number_not_level : (s : Bool) (m : ℕ) (e : ℤ) → eq (fin s (suc m) e) plain_zero ≡ false
unfolding eq
number_not_level s m e =
    rw (ne_eqb (suc m * up e * 1) (0 * down e) (λ q. omega (arith, mul-pos (zero-lt-suc m) (up_pos e)))) refl

pub negative_below : (m : ℕ) (e : ℤ) → lt (fin true (suc m) e) plain_zero ≡ true
unfolding lt
negative_below m e = lt-ltb 0 (suc m * up e * 1 + 0 * down e) (omega (arith, mul-pos (zero-lt-suc m) (up_pos e)))

pub positive_not_below : (m : ℕ) (e : ℤ) → lt (fin false (suc m) e) plain_zero ≡ false
unfolding lt
positive_not_below m e = le-ltb (suc m * up e * 1) (0 * down e) (omega arith)

-- A test cannot have given both answers.
pub both : {A : Type 0} {b : Bool} → b ≡ true → b ≡ false → A
both t f = absurd (true≢false (sym t ∙ f))

-- ---- magnitude, as the library's `abs` gives it

pub magnitude_is : {r : Float} (x : Float) → r ≡ float_with_sign false x → r ≡ magnitude x
unfolding float_with_sign
magnitude_is nan h = h
magnitude_is (inf s) h = h
magnitude_is (fin s m e) h = h

-- ---- what `<` and `!=` tell of the floats that two values are: o and e are what their type's order and equality gave

-- One is below the other where the order says so.
pub below_tells : {o : Option Ordering} {r t : Bool} (x y : Float) → o ≡ float_partial_cmp x y → r ≡ is_some_and is_lt o → r ≡ t → lt x y ≡ t
below_tells x y p q h = less (lt x y) (eq x y) (lt y x) ∙ sym (ap (is_some_and is_lt) p) ∙ sym q ∙ h
  where
    less : (a b c : Bool) → a ≡ is_some_and is_lt (cond a (Some Less) (cond b (Some Equal) (cond c (Some Greater) None)))
    less true b c = refl
    less false true c = refl
    less false false true = refl
    less false false false = refl

-- A value differs from itself where its float does.
pub differs_tells : {e r t : Bool} (x : Float) → e ≡ eq x x → r ≡ not e → r ≡ t → ne x x ≡ t
unfolding ne
differs_tells x p q h = ap not (sym p) ∙ sym q ∙ h

-- ---- the larger, the smaller and the held, by what the code's two tests found: n, l, p and q are what each gave

-- The larger of a and b: b where a is a NaN or a < b, and a otherwise.
pub larger_tests : {n l : Bool} (a b : Float) → ne a a ≡ n → lt a b ≡ l → cond n b (cond l b a) ≡ larger a b
unfolding larger
larger_tests a b p q = rw (nan_test, p, q)

-- The smaller of a and b: b where a is a NaN or b < a, and a otherwise.
pub smaller_tests : {n l : Bool} (a b : Float) → ne a a ≡ n → lt b a ≡ l → cond n b (cond l b a) ≡ smaller a b
unfolding smaller
smaller_tests a b p q = rw (nan_test, p, q)

-- x held to lo .. hi: lo where x < lo, hi where hi < x, and x otherwise.
pub held_tests : {p q : Bool} (lo hi x : Float) → lt x lo ≡ p → lt hi x ≡ q → cond p lo (cond q hi x) ≡ held lo hi x
unfolding held
held_tests lo hi x p q = rw (p, q)
