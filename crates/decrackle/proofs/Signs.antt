-- Floats without a sign, among which a NaN counts: none of them is below 0, and which products, differences and larger ones
-- have no sign. Assumes nothing.
use mathlib.Core.Path.{◌≡◌, refl, sym, ◌∙◌}
use mathlib.Core.Bool.{Bool, true, false, not, cond, true≢false, false≢true}
use Prim.Native.Nat.{ℕ, zero, suc, ◌+◌, ◌-◌, ◌*◌, ◌^◌, ◌<◌}
use native.Mathlib.Omega.{arith}
use native.Mathlib.Nat.{mul-pos}
use borrow.Author.Tests.{lt-ltb, le-ltb}
use lib.Dec.{ltb, eqb}
use lib.IntN.{ℤ}
use lib.Ieee.{Float, nan, inf, fin, Format, prec, emax, low, up, down, odd, units, round, sub, mul, lt, is_nan}
use lib.Ieee.Fits.{up_pos, down_pos}
use Rattle.leaves.specs.Arithmetic.{nought}
use Rattle.leaves.specs.Floats.{larger}

-- no sign, or a NaN
abbrev pub unsigned : Float → Bool
unsigned nan = true
unsigned (inf s) = not s
unsigned (fin s m e) = not s

pub unsigned_not_below : (x : Float) → unsigned x ≡ true → lt x nought ≡ false
unfolding lt
unsigned_not_below nan h = refl
unsigned_not_below (inf true) h = absurd (false≢true h)
unsigned_not_below (inf false) h = refl
unsigned_not_below (fin true m e) h = absurd (false≢true h)
unsigned_not_below (fin false m e) h = le-ltb (m * up e * 1) (0 * down e) (omega arith)

-- ---- Rounding keeps the sign

odd_unsigned : (d q k l : ℕ) → unsigned (odd d false q k l) ≡ true
unfolding odd
odd_unsigned d zero k l = refl
odd_unsigned d (suc q) k l = refl

units_unsigned : (f : Format) (q k : ℕ) → unsigned (units f false q k) ≡ true
unfolding units
units_unsigned f q k = go (ltb (q * 2 ^ k) (2 ^ (low f + suc (emax f))))
  where
    go : (b : Bool) → unsigned (cond b (odd (suc (prec f)) false q k (low f)) (inf false)) ≡ true
    go true = odd_unsigned (suc (prec f)) q k (low f)
    go false = refl

round_unsigned : (f : Format) (a b : ℕ) → unsigned (round f false a b) ≡ true
unfolding round
round_unsigned f a b = units_unsigned f _ _

-- ---- A product of two, where an infinity times 0 is a NaN

infinity_unsigned : (b : Bool) → unsigned (cond b nan (inf false)) ≡ true
infinity_unsigned true = refl
infinity_unsigned false = refl

pub mul_unsigned : (f : Format) (x y : Float) → unsigned x ≡ true → unsigned y ≡ true → unsigned (mul f x y) ≡ true
unfolding mul
mul_unsigned f nan y p q = refl
mul_unsigned f (inf true) y p q = absurd (false≢true p)
mul_unsigned f (inf false) nan p q = refl
mul_unsigned f (inf false) (inf true) p q = absurd (false≢true q)
mul_unsigned f (inf false) (inf false) p q = refl
mul_unsigned f (inf false) (fin true n d) p q = absurd (false≢true q)
mul_unsigned f (inf false) (fin false n d) p q = infinity_unsigned (eqb n 0)
mul_unsigned f (fin true m e) y p q = absurd (false≢true p)
mul_unsigned f (fin false m e) nan p q = refl
mul_unsigned f (fin false m e) (inf true) p q = absurd (false≢true q)
mul_unsigned f (fin false m e) (inf false) p q = infinity_unsigned (eqb m 0)
mul_unsigned f (fin false m e) (fin true n d) p q = absurd (false≢true q)
mul_unsigned f (fin false m e) (fin false n d) p q = round_unsigned f (m * up e * (n * up d)) (down e * down d)

-- ---- What is left of a number without a sign when what is not above it is taken away

pub sub_unsigned : (f : Format) (m : ℕ) (e : ℤ) (y : Float) → lt (fin false m e) y ≡ false → unsigned (sub f (fin false m e) y) ≡ true
unfolding lt sub
sub_unsigned f m e nan h = refl
sub_unsigned f m e (inf true) h = refl
sub_unsigned f m e (inf false) h = absurd (true≢false h)
sub_unsigned f m e (fin true n d) h = round_unsigned f (m * up e * down d + n * up d * down e) (down e * down d)
sub_unsigned f m e (fin false n d) h = rw h (round_unsigned f (m * up e * down d - n * up d * down e) (down e * down d))

-- ---- The larger of any float and a number above 0

-- what is not below such a number has no sign
least_unsigned : (m : ℕ) (e : ℤ) (x : Float) → 0 < m → lt x (fin false m e) ≡ false → unsigned x ≡ true
unfolding lt
least_unsigned m e nan h k = refl
least_unsigned m e (inf true) h k = absurd (true≢false k)
least_unsigned m e (inf false) h k = refl
least_unsigned m e (fin true n d) h k =
    let above : 0 < m * up e * down d = mul-pos (mul-pos h (up_pos e)) (down_pos d) in
    absurd (true≢false (sym (lt-ltb 0 (n * up d * down e + m * up e * down d) (omega (arith, above))) ∙ k))
least_unsigned m e (fin false n d) h k = refl

pub larger_unsigned : (m : ℕ) (e : ℤ) (x : Float) → 0 < m → unsigned (larger x (fin false m e)) ≡ true
unfolding larger
larger_unsigned m e x h = go (is_nan x) (lt x (fin false m e)) refl
  where
    go : (n l : Bool) → lt x (fin false m e) ≡ l → unsigned (cond n (fin false m e) (cond l (fin false m e) x)) ≡ true
    go true l k = refl
    go false true k = refl
    go false false k = least_unsigned m e x h k
