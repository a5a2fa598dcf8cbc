-- What number a bit pattern stands for, and that a format writes each number in one way only.
-- `HasValue x s a c` says that x is finite, has the sign s, and is a / c in size. Each law holds for both formats.
-- Assumes nothing.
use Rattle.std.proofs.Common.{◌≡◌, ℕ, suc, ◌+◌, ◌-◌, ◌*◌, ◌/◌, ◌%◌, ◌^◌, ◌<◌, ◌≤◌, Bool, true, false, cond, not, ◌&&◌, T, eqb, ltb, leb, ◌⊎◌, ℤ, sym, refl, ap, ◌∙◌, subst, inl, inr, le_trans, le-add_right, mul_assoc, add-sub_of_le, zero-add, zero-mul, mul-one, mul_right_comm, not-le_of_lt, le-add_left, arith, ltb→lt, leb→le, ne_eqb, le-leb}
use native.Mathlib.Nat.{eq_of_mul-eq-mul_right}
use native.Mathlib.Nat.{pow-succ'}
use mathlib.Core.Bool.{false≢true}
use borrow.Author.Tests.{lt-leb}
use lib.Ieee.{Float, nan, inf, fin, Format, binary32, binary64, prec, emax, low, up, down, size, odd, hid, ones, top}
use lib.Ieee.{neg, of_fields, of_bits, to_bits, fits}
use lib.Ieee.Fits.{and_l, and_r, down_pos}
use lib.Ieee.Bits.{of_bits-to_bits}
use lib.Ieee.Nearest.{div_same}
use lib.Ieee.Exact.{HasValue, odd_sign}
use lib.Ieee.Scale.{finite}
use Rattle.leaves.specs.Floats.{magnitude}
use Rattle.leaves.specs.Steps.{signed}
use Rattle.leaves.proofs.Numbers.{lt_or_ge}

-- ---- which numbers a format holds

-- m * 2 ^ e has no more digits than the format keeps, is a multiple of its least value, and is below 2 ^ (emax + 1)
pub record Number (f : Format) (m : ℕ) (e : ℤ) : Type 0 where
  pub few : m < 2 ^ prec f
  pub fine : down e ≤ 2 ^ low f
  pub finite : m * up e < 2 ^ suc (emax f) * down e

pub number_of : (f : Format) (s : Bool) (m : ℕ) (e : ℤ) → T (fits f (fin s (suc m) e)) → Number f (suc m) e
unfolding fits
number_of f s m e t =
    let a : Bool = eqb (suc m % 2) 1 in
    let b : Bool = ltb (suc m) (2 ^ prec f) in
    let c : Bool = leb (down e) (2 ^ low f) in
    let d : Bool = ltb (suc m * up e) (2 ^ suc (emax f) * down e) in
    record {
      few = ltb→lt (suc m) (2 ^ prec f) (and_r a b (and_l (a && b) c (and_l (a && b && c) d t)));
      fine = leb→le (down e) (2 ^ low f) (and_r (a && b) c (and_l (a && b && c) d t));
      finite = ltb→lt (suc m * up e) (2 ^ suc (emax f) * down e) (and_r (a && b && c) d t);
    }

-- ---- one way to write a number

-- the pattern of a number that is n of the format's least values, with the sign s
abbrev pattern : Format → Bool → ℕ → ℕ
pattern f s n = cond s (top f) 0 + (size n - prec f) * hid f + n / 2 ^ (size n - prec f)

-- the pattern of a float turns on its value alone
bits_of_value : (f : Format) (s : Bool) (a c : ℕ) (x : Float) → 0 < c → HasValue x s a c → to_bits f x ≡ pattern f s (a * 2 ^ low f / c)
unfolding to_bits
bits_of_value f s a c nan h v = absurd v
bits_of_value f s a c (inf t) h v = absurd v
bits_of_value f s a c (fin t m e) h v =
    let cross : m * up e * 2 ^ low f * c ≡ a * 2 ^ low f * down e =
    mul_right_comm (m * up e) (2 ^ low f) c ∙ ap (λ (z : ℕ). z * 2 ^ low f) v.1 ∙ mul_right_comm a (down e) (2 ^ low f) in
    ap (λ (t' : Bool). pattern f t' (m * up e * 2 ^ low f / down e)) v.0
    ∙ ap (pattern f s) (div_same (m * up e * 2 ^ low f) (down e) (a * 2 ^ low f) c (down_pos e) h cross)

-- two floats of one format that have the same sign and size are the same
pub same_value : (f : Format) (s : Bool) (a c : ℕ) (x y : Float) → 0 < c → T (fits f x) → T (fits f y) → HasValue x s a c → HasValue y s a c → x ≡ y
same_value f s a c x y h fx fy vx vy =
    sym (of_bits-to_bits f x fx) ∙ ap (of_bits f) (bits_of_value f s a c x h vx ∙ sym (bits_of_value f s a c y h vy)) ∙ of_bits-to_bits f y fy

-- ---- a float as a fraction

-- the fractions that a float is are equal
pub same_fraction : (x : Float) (s : Bool) (a c a' c' : ℕ) → HasValue x s a c → HasValue x s a' c' → a * c' ≡ a' * c
same_fraction nan s a c a' c' v v' = absurd v
same_fraction (inf t) s a c a' c' v v' = absurd v
same_fraction (fin t m e) s a c a' c' v v' =
    eq_of_mul-eq-mul_right (down e) (down_pos e) (a * c') (a' * c)
    (mul_right_comm a c' (down e)
    ∙ ap (λ (z : ℕ). z * c') (sym v.1)
    ∙ mul_right_comm (m * up e) c c'
    ∙ ap (λ (z : ℕ). z * c) v'.1
    ∙ mul_right_comm a' (down e) c)

-- a float that is a fraction is every fraction equal to it
pub rescaled : (x : Float) (s : Bool) (a c a' c' : ℕ) → 0 < c → a * c' ≡ a' * c → HasValue x s a c → HasValue x s a' c'
rescaled nan s a c a' c' p h v = v
rescaled (inf t) s a c a' c' p h v = v
rescaled (fin t m e) s a c a' c' p h v = (
  v.0,
  eq_of_mul-eq-mul_right c p (m * up e * c') (a' * down e)
      (mul_right_comm (m * up e) c' c
      ∙ ap (λ (z : ℕ). z * c') v.1
      ∙ mul_right_comm a (down e) c'
      ∙ ap (λ (z : ℕ). z * down e) h
      ∙ mul_right_comm a' c (down e)),
)

-- a float that has a value is finite
pub finite_of : (x : Float) (s : Bool) (a c : ℕ) → HasValue x s a c → finite x ≡ true
finite_of nan s a c v = absurd v
finite_of (inf t) s a c v = absurd v
finite_of (fin t m e) s a c v = refl

-- and a finite float has one
pub finite_value : (x : Float) → finite x ≡ true → (s : Bool) × (a : ℕ) × (c : ℕ) × HasValue x s a c
finite_value nan h = absurd (false≢true h)
finite_value (inf t) h = absurd (false≢true h)
finite_value (fin t m e) h = (t, m * up e, down e, (refl, refl))

-- a negated float has the other sign
pub neg_value : (x : Float) (s : Bool) (a c : ℕ) → HasValue x s a c → HasValue (neg x) (not s) a c
unfolding neg
neg_value nan s a c v = v
neg_value (inf t) s a c v = v
neg_value (fin t m e) s a c v = (ap not v.0, v.1)

-- and a magnitude has none
pub magnitude_value : (x : Float) (s : Bool) (a c : ℕ) → HasValue x s a c → HasValue (magnitude x) false a c
magnitude_value nan s a c v = v
magnitude_value (inf t) s a c v = v
magnitude_value (fin t m e) s a c v = (refl, v.1)

-- ---- a float and its pattern

-- the float of a float's own pattern is that float
pub back : (f : Format) (x : Float) (b : ℕ) → T (fits f x) → b ≡ to_bits f x → of_bits f b ≡ x
back f x b holds e = ap (of_bits f) e ∙ of_bits-to_bits f x holds

-- the same of a pattern taken apart: with no sign, and with the sign taken off
pub back_plain : (f : Format) (x : Float) (b : ℕ) → T (fits f x) → b ≡ to_bits f x → of_bits f (signed f false b) ≡ x
back_plain f x b holds e = ap (of_bits f) (zero-add b) ∙ back f x b holds e

pub back_signed : (f : Format) (x : Float) (b : ℕ) → T (fits f x) → b ≡ to_bits f x → top f ≤ b → of_bits f (signed f true (b - top f)) ≡ x
back_signed f x b holds e h = ap (of_bits f) (add-sub_of_le h) ∙ back f x b holds e

-- ---- the number of a pattern

-- the digits of a pattern with a leading one, and how many places they stand up
abbrev pub digits : Format → ℕ → ℕ
digits f p = hid f + p % hid f

abbrev pub place : Format → ℕ → ℕ
place f p = p / hid f - 1

-- the sign, the exponent's field and the digits below it, of a pattern that is put together from a sign and the rest
pub fields_of : (f : Format) (s : Bool) (p : ℕ) → p < top f → of_bits f (signed f s p) ≡ of_fields f s (p / hid f) (p % hid f)
unfolding of_bits
fields_of f s p h = rw (sign f s p h, rest f s p h, tail f s p) refl
  where
    sign : (f : Format) (s : Bool) (p : ℕ) → p < top f → leb (top f) (signed f s p) ≡ s
    sign f true p h = le-leb (top f) (top f + p) (le-add_right (top f) p)
    sign f false p h = lt-leb (top f) (0 + p) (rw zero-add h)

    rest : (f : Format) (s : Bool) (p : ℕ) → p < top f → signed f s p % top f ≡ p
    rest binary32 true p h = omega arith
    rest binary32 false p h = omega arith
    rest binary64 true p h = omega arith
    rest binary64 false p h = omega arith

    tail : (f : Format) (s : Bool) (p : ℕ) → signed f s p % hid f ≡ p % hid f
    tail binary32 true p = omega arith
    tail binary32 false p = omega arith
    tail binary64 true p = omega arith
    tail binary64 false p = omega arith

-- A field of 0: the digits alone, in units of the format's least value.
pub value_of_tail : (f : Format) (s : Bool) (p : ℕ) → p < hid f → HasValue (of_bits f (signed f s p)) s p (2 ^ low f)
unfolding of_fields
value_of_tail f s p h =
    let bound : p < top f = under_top f p h in
    rw (fields_of f s p bound, none f p h, all f p h)
    (subst (λ (z : ℕ). HasValue (odd (prec f) s p 0 (low f)) s z (2 ^ low f)) (mul-one p) (odd_sign (prec f) s p 0 (low f)))
  where
    under_top : (f : Format) (p : ℕ) → p < hid f → p < top f
    under_top binary32 p h = omega arith
    under_top binary64 p h = omega arith

    none : (f : Format) (p : ℕ) → p < hid f → p / hid f ≡ 0
    none binary32 p h = omega arith
    none binary64 p h = omega arith

    all : (f : Format) (p : ℕ) → p < hid f → p % hid f ≡ p
    all binary32 p h = omega arith
    all binary64 p h = omega arith

-- A field of x + 1 below that of the infinity: the digits with the leading one above them, x places up.
value_of_field : (f : Format) (s : Bool) (x t : ℕ) → suc x < ones f → HasValue (of_fields f s (suc x) t) s ((hid f + t) * 2 ^ x) (2 ^ low f)
unfolding of_fields
value_of_field f s x t h =
    let finite : eqb (suc x) (ones f) ≡ false = ne_eqb _ _ (λ (e : suc x ≡ ones f). differ x (ones f) h e) in
    rw finite (odd_sign (prec f) s (hid f + t) x (low f))
  where
    differ : (x o : ℕ) → suc x < o → suc x ≡ o → ⊥
    differ x o h e = omega arith

pub value_of_digits : (f : Format) (s : Bool) (p : ℕ) → hid f ≤ p → p < ones f * hid f
    → HasValue (of_bits f (signed f s p)) s (digits f p * 2 ^ place f p) (2 ^ low f)
value_of_digits f s p h k =
    rw (fields_of f s p (under_top f p k))
    (subst (λ (x : ℕ). HasValue (of_fields f s x (p % hid f)) s (digits f p * 2 ^ place f p) (2 ^ low f)) (some f p h)
    (value_of_field f s (p / hid f - 1) (p % hid f) (below f p h k)))
  where
    under_top : (f : Format) (p : ℕ) → p < ones f * hid f → p < top f
    under_top binary32 p h = omega arith
    under_top binary64 p h = omega arith

    some : (f : Format) (p : ℕ) → hid f ≤ p → suc (p / hid f - 1) ≡ p / hid f
    some binary32 p h = omega arith
    some binary64 p h = omega arith

    below : (f : Format) (p : ℕ) → hid f ≤ p → p < ones f * hid f → suc (p / hid f - 1) < ones f
    below binary32 p h k = omega arith
    below binary64 p h k = omega arith

-- ---- the pattern of a number

-- the digits of k * hid + w and how far up they stand, where w has the leading digit, and where it is one more than a
-- format's digits can be
sum_digits : (f : Format) (k w : ℕ) → hid f ≤ w → w ≤ 2 * hid f → (hid f + (k * hid f + w) % hid f) * 2 ^ ((k * hid f + w) / hid f - 1) ≡ w * 2 ^ k
sum_digits f k w h most = elim (lt_or_ge w (2 * hid f)) [
  | inl l ↦
      let e : (k * hid f + w) / hid f - 1 ≡ k = place f k w h l in
      let t : hid f + (k * hid f + w) % hid f ≡ w = kept f k w h l in
      rw (e, t) refl
  | inr g ↦
      let e : (k * hid f + w) / hid f - 1 ≡ suc k = carried f k w most g in
      let t : (hid f + (k * hid f + w) % hid f) * 2 ≡ w = doubled f k w most g in
      rw e (ap (λ (z : ℕ). (hid f + (k * hid f + w) % hid f) * z) (pow-succ' 2 k)
      ∙ sym (mul_assoc (hid f + (k * hid f + w) % hid f) 2 (2 ^ k))
      ∙ ap (λ (z : ℕ). z * 2 ^ k) t)
]
  where
    place : (f : Format) (k w : ℕ) → hid f ≤ w → w < 2 * hid f → (k * hid f + w) / hid f - 1 ≡ k
    place binary32 k w h l = omega arith
    place binary64 k w h l = omega arith

    kept : (f : Format) (k w : ℕ) → hid f ≤ w → w < 2 * hid f → hid f + (k * hid f + w) % hid f ≡ w
    kept binary32 k w h l = omega arith
    kept binary64 k w h l = omega arith

    carried : (f : Format) (k w : ℕ) → w ≤ 2 * hid f → 2 * hid f ≤ w → (k * hid f + w) / hid f - 1 ≡ suc k
    carried binary32 k w h l = omega arith
    carried binary64 k w h l = omega arith

    doubled : (f : Format) (k w : ℕ) → w ≤ 2 * hid f → 2 * hid f ≤ w → (hid f + (k * hid f + w) % hid f) * 2 ≡ w
    doubled binary32 k w h l = omega arith
    doubled binary64 k w h l = omega arith

-- w of the format's digits, k places up, stand for the pattern k * hid + w: the leading digit adds one to the field,
-- and so does a carry out of the digits.
pub value_of_sum : (f : Format) (s : Bool) (k w : ℕ) → (k ≡ 0) ⊎ (hid f ≤ w) → w ≤ 2 * hid f → k * hid f + w < ones f * hid f
    → HasValue (of_bits f (signed f s (k * hid f + w))) s (w * 2 ^ k) (2 ^ low f)
value_of_sum f s k w lead most h = elim (lt_or_ge w (hid f)) [
  | inl l ↦
      let nothing : k ≡ 0 = elim lead [ inl e ↦ e | inr g ↦ absurd (not-le_of_lt l g) ] in
      rw (nothing, zero-mul, zero-add, mul-one) (value_of_tail f s w l)
  | inr g ↦
      subst (λ (z : ℕ). HasValue (of_bits f (signed f s (k * hid f + w))) s z (2 ^ low f)) (sum_digits f k w g most)
      (value_of_digits f s (k * hid f + w) (le_trans g (le-add_left w (k * hid f))) h)
]

-- every pattern is a sign and the rest
pub sign_and_rest : (f : Format) (b : ℕ) → b < 2 * top f → (s : Bool) × (b ≡ signed f s (b % top f))
sign_and_rest f b h = elim (lt_or_ge b (top f)) [
  | inl l ↦ (false, plain f b l)
  | inr g ↦ (true, marked f b g h)
]
  where
    plain : (f : Format) (b : ℕ) → b < top f → b ≡ 0 + b % top f
    plain binary32 b l = omega arith
    plain binary64 b l = omega arith

    marked : (f : Format) (b : ℕ) → top f ≤ b → b < 2 * top f → b ≡ top f + b % top f
    marked binary32 b g h = omega arith
    marked binary64 b g h = omega arith

-- a pattern from the infinity's on is no number's: the infinity's own, and beyond it a NaN's
pub no_number : (f : Format) (s : Bool) (p : ℕ) → ones f * hid f ≤ p → p < top f → of_bits f (signed f s p) ≡ cond (eqb (p % hid f) 0) (inf s) nan
unfolding of_fields
no_number f s p least most = fields_of f s p most ∙ ap (λ (x : ℕ). of_fields f s x (p % hid f)) (last f p least most) ∙ at_last f (p % hid f)
  where
    last : (f : Format) (p : ℕ) → ones f * hid f ≤ p → p < top f → p / hid f ≡ ones f
    last binary32 p least most = omega arith
    last binary64 p least most = omega arith

    at_last : (f : Format) (t : ℕ) → of_fields f s (ones f) t ≡ cond (eqb t 0) (inf s) nan
    at_last binary32 t = refl
    at_last binary64 t = refl
