-- Comparisons of any two floats: `lt` of two whole numbers, `le` from `lt`, both under a negation, and `le` of a magnitude, which tells the
-- side that a float lies on. Assumes nothing.
use Rattle.std.proofs.Common.{◌≡◌, ℕ, ◌+◌, ◌*◌, ◌<◌, Bool, true, false, not, ◌&&◌, ◌||◌, eqb, ltb, ◌⊎◌, ℤ, sym, refl, ap, ◌∙◌, inl, inr, true≢false, mul-le-mul_right, mul_assoc, add-mul, add_comm, eq-or-lt_of_le, mul-lt-mul_of_pos_right, mul-pos, zero-mul, mul-one, mul_right_comm, arith, ltb-false, ltb-true, le-ltb, lt-ltb, eq-eqb, ne_eqb, eqb-true}
use mathlib.Core.Bool.{and-false, or-true, not-not, false≢true}
use lib.Ieee.{Float, nan, inf, fin, up, down, below, level, neg, lt, le, is_nan}
use lib.Ieee.Fits.{down_pos}
use lib.Ieee.Exact.{HasValue}
use lib.Ieee.Scale.{finite}
use borrow.Author.Tests.{not-true}
use Rattle.leaves.specs.Arithmetic.{nought}
use Rattle.leaves.specs.Floats.{magnitude}
use Rattle.leaves.proofs.Choice.{truth}
use Rattle.leaves.proofs.Numbers.{lt_or_ge}
use Rattle.leaves.proofs.order.Laws.{both}
use Rattle.leaves.proofs.words.Laws.{eqb_sym, number_test, one_nan}

-- ---- Two finite numbers, by their signs and sizes

-- less or the same, of two sizes: the other is not less
less_or_same : (a b : ℕ) → ltb a b || (eqb a b && true) ≡ not (ltb b a)
less_or_same a b = elim (truth (ltb b a)) [
  | inl l ↦
      let h : b < a = ltb-true b a l in
      rw (l, le-ltb a b (omega arith), ne_eqb a b (λ (e : a ≡ b). omega arith))
  | inr n ↦ elim (eq-or-lt_of_le (ltb-false b a n)) [
    | inl e ↦ rw (n, le-ltb a b (omega arith), eq-eqb a b e)
    | inr l ↦ rw (n, lt-ltb a b l)
  ]
]

-- a number without a sign is at most one with a sign where both are zero
both_zero : (a b : ℕ) → eqb a b && eqb a 0 ≡ not (ltb 0 (b + a))
both_zero a b = elim (truth (ltb 0 (b + a))) [
  | inl l ↦
      let h : 0 < b + a = ltb-true 0 (b + a) l in
      elim (truth (eqb a 0)) [
        | inl z ↦ rw (l, z, ne_eqb a b (λ (e : a ≡ b). omega (arith, eqb-true a 0 z)))
        | inr z ↦ rw (l, z, and-false)
      ]
  | inr n ↦
      let h = ltb-false 0 (b + a) n in
      rw (n, eq-eqb a b (omega arith), eq-eqb a 0 (omega arith))
]

-- a number with a sign is at most every one without
zero_at_most : (a b : ℕ) → ltb 0 (a + b) || (eqb a b && eqb a 0) ≡ true
zero_at_most a b = elim (truth (ltb 0 (a + b))) [
  | inl l ↦ rw l
  | inr n ↦
      let h = ltb-false 0 (a + b) n in
      rw (n, eq-eqb a b (omega arith), eq-eqb a 0 (omega arith))
]

-- below or level says that the other is not below
not_below : (s t : Bool) (a b : ℕ) → below s a t b || level s a t b ≡ not (below t b s a)
not_below false false a b = less_or_same a b
not_below false true a b = both_zero a b
not_below true false a b = zero_at_most a b
not_below true true a b = rw (eqb_sym a b) (less_or_same b a)

-- with both signs changed, below is turned round
below_turned : (s t : Bool) (a b : ℕ) → below (not s) a (not t) b ≡ below t b s a
below_turned true true a b = refl
below_turned true false a b = refl
below_turned false true a b = rw (add_comm a b)
below_turned false false a b = refl

-- ---- Two whole numbers

-- a comparison of two sizes is that of their multiples
ltb_times : (a b p : ℕ) → 0 < p → ltb (a * p) (b * p) ≡ ltb a b
ltb_times a b p h = elim (lt_or_ge a b) [
  | inl l ↦ lt-ltb (a * p) (b * p) (mul-lt-mul_of_pos_right l h) ∙ sym (lt-ltb a b l)
  | inr g ↦ le-ltb (a * p) (b * p) (mul-le-mul_right p g) ∙ sym (le-ltb a b g)
]

-- with signs too
below_times : (s t : Bool) (a b p : ℕ) → 0 < p → below s (a * p) t (b * p) ≡ below s a t b
below_times false false a b p h = ltb_times a b p h
below_times false true a b p h = refl
below_times true false a b p h = ap (ltb 0) (sym (add-mul a b p)) ∙ ap (λ (z : ℕ). ltb z ((a + b) * p)) (sym (zero-mul p)) ∙ ltb_times 0 (a + b) p h
below_times true true a b p h = ltb_times b a p h

-- two whole numbers compare as their signs and sizes do
pub lt_of_wholes : (x y : Float) (s t : Bool) (a b : ℕ) → HasValue x s a 1 → HasValue y t b 1 → lt x y ≡ below s a t b
unfolding lt
lt_of_wholes nan y s t a b v w = absurd v
lt_of_wholes (inf u) y s t a b v w = absurd v
lt_of_wholes (fin u m e) nan s t a b v w = absurd w
lt_of_wholes (fin u m e) (inf r) s t a b v w = absurd w
lt_of_wholes (fin u m e) (fin r n d) s t a b v w =
    let one : m * up e * down d ≡ a * (down e * down d) =
    ap (λ (z : ℕ). z * down d) (sym (mul-one (m * up e)) ∙ v.1) ∙ mul_assoc a (down e) (down d) in
    let two : n * up d * down e ≡ b * (down e * down d) =
    ap (λ (z : ℕ). z * down e) (sym (mul-one (n * up d)) ∙ w.1) ∙ mul_right_comm b (down d) (down e) ∙ mul_assoc b (down e) (down d) in
    rw (v.0, w.0, one, two) (below_times s t a b (down e * down d) (mul-pos (down_pos e) (down_pos d)))

-- ---- A NaN

-- nothing is below a NaN, or at most one
pub lt_nan : (x : Float) → lt x nan ≡ false
unfolding lt
lt_nan nan = refl
lt_nan (inf s) = refl
lt_nan (fin s m e) = refl

pub le_nan : (x : Float) → le x nan ≡ false
unfolding le
le_nan nan = refl
le_nan (inf s) = refl
le_nan (fin s m e) = refl

-- a finite float is no NaN
pub finite_number : (x : Float) → finite x ≡ true → is_nan x ≡ false
unfolding is_nan
finite_number nan h = absurd (false≢true h)
finite_number (inf s) h = absurd (false≢true h)
finite_number (fin s m e) h = refl

-- ---- `le` from `lt`

-- of two floats that are no NaN, one is at most the other exactly where the other is not below it
pub le_is_not_lt : (x y : Float) → is_nan x ≡ false → is_nan y ≡ false → le y x ≡ not (lt x y)
unfolding is_nan le
le_is_not_lt nan y p q = absurd (true≢false p)
le_is_not_lt (inf s) nan p q = absurd (true≢false q)
le_is_not_lt (inf true) (inf true) p q = refl
le_is_not_lt (inf true) (inf false) p q = refl
le_is_not_lt (inf false) (inf true) p q = refl
le_is_not_lt (inf false) (inf false) p q = refl
le_is_not_lt (inf true) (fin t n d) p q = refl
le_is_not_lt (inf false) (fin t n d) p q = refl
le_is_not_lt (fin s m e) nan p q = absurd (true≢false q)
le_is_not_lt (fin s m e) (inf true) p q = refl
le_is_not_lt (fin s m e) (inf false) p q = refl
le_is_not_lt (fin s m e) (fin t n d) p q = not_below t s (n * up d * down e) (m * up e * down d)

-- what is not below is at least as large
pub not_lt_le : (x y : Float) → is_nan x ≡ false → is_nan y ≡ false → lt x y ≡ false → le y x ≡ true
not_lt_le x y p q h = le_is_not_lt x y p q ∙ ap not h

-- what is below is not at least as large
pub lt_not_le : (x y : Float) → lt x y ≡ true → le y x ≡ false
lt_not_le x y h = elim (truth (is_nan x)) [
  | inl p ↦ rw (one_nan x p) (le_nan y)
  | inr p ↦ elim (truth (is_nan y)) [
    | inl q ↦ both h (rw (one_nan y q) (lt_nan x))
    | inr q ↦ le_is_not_lt x y p q ∙ ap not h
  ]
]

-- a number is at most itself
pub le_itself : (x : Float) → is_nan x ≡ false → le x x ≡ true
unfolding le
le_itself x h = rw (number_test, h, or-true)

-- ---- Negation

-- negated twice, a float is itself
pub neg_neg : (x : Float) → neg (neg x) ≡ x
unfolding neg
neg_neg nan = refl
neg_neg (inf s) = ap inf (not-not s)
neg_neg (fin s m e) = ap (λ (b : Bool). fin b m e) (not-not s)

-- negation turns comparisons round
pub lt_neg : (x y : Float) → lt (neg x) (neg y) ≡ lt y x
unfolding neg lt
lt_neg nan y = sym (lt_nan y)
lt_neg (inf s) nan = refl
lt_neg (inf true) (inf true) = refl
lt_neg (inf true) (inf false) = refl
lt_neg (inf false) (inf true) = refl
lt_neg (inf false) (inf false) = refl
lt_neg (inf s) (fin t n d) = refl
lt_neg (fin s m e) nan = refl
lt_neg (fin s m e) (inf t) = not-not t
lt_neg (fin s m e) (fin t n d) = below_turned s t (m * up e * down d) (n * up d * down e)

pub le_neg : (x y : Float) → le (neg x) (neg y) ≡ le y x
unfolding neg le
le_neg nan y = sym (le_nan y)
le_neg (inf s) nan = refl
le_neg (inf true) (inf true) = refl
le_neg (inf true) (inf false) = refl
le_neg (inf false) (inf true) = refl
le_neg (inf false) (inf false) = refl
le_neg (inf s) (fin t n d) = refl
le_neg (fin s m e) nan = refl
le_neg (fin s m e) (inf true) = refl
le_neg (fin s m e) (inf false) = refl
le_neg (fin s m e) (fin t n d) =
    let a = m * up e * down d in
    let b = n * up d * down e in
    not_below (not s) (not t) a b ∙ ap not (below_turned t s b a) ∙ sym (not_below t s b a)

-- so x is at most -t where t is at most -x
pub le_across : (t x : Float) → le x (neg t) ≡ le t (neg x)
le_across t x = ap (λ (y : Float). le y (neg t)) (sym (neg_neg x)) ∙ le_neg (neg x) t

-- ---- Magnitude: at or above t, it tells that the float is at or above t or at or below -t, and the other way

-- a magnitude is the float or its negation
own_or_negated : (x : Float) → (magnitude x ≡ x) ⊎ (magnitude x ≡ neg x)
unfolding neg
own_or_negated nan = inl refl
own_or_negated (inf true) = inr refl
own_or_negated (inf false) = inl refl
own_or_negated (fin true m e) = inr refl
own_or_negated (fin false m e) = inl refl

-- a magnitude at or beyond t: the float is on the one side, or on the other
pub beyond_side : (t x : Float) → le t (magnitude x) ≡ true → (le t x ≡ true) ⊎ (le x (neg t) ≡ true)
beyond_side t x h = elim (own_or_negated x) [
  | inl e ↦ inl (rw e at h)
  | inr e ↦ inr (le_across t x ∙ (rw e at h))
]

-- a float and its negation have one magnitude
pub magnitude_neg : (x : Float) → magnitude (neg x) ≡ magnitude x
unfolding neg
magnitude_neg nan = refl
magnitude_neg (inf s) = refl
magnitude_neg (fin s m e) = refl

-- a magnitude is a NaN where the float is
pub magnitude_nan : (x : Float) → is_nan (magnitude x) ≡ is_nan x
unfolding is_nan
magnitude_nan nan = refl
magnitude_nan (inf s) = refl
magnitude_nan (fin s m e) = refl

-- a float at or above t has a magnitude at or above it
pub above_beyond : (t x : Float) → le t x ≡ true → le t (magnitude x) ≡ true
unfolding le
above_beyond t nan h = h
above_beyond t (inf false) h = h
above_beyond t (fin false m e) h = h
above_beyond nan (inf true) h = h
above_beyond (inf true) (inf true) h = refl
above_beyond (inf false) (inf true) h = refl
above_beyond (fin s n d) (inf true) h = refl
above_beyond nan (fin true m e) h = h
above_beyond (inf s) (fin true m e) h = h
above_beyond (fin true n d) (fin true m e) h = zero_at_most (n * up d * down e) (m * up e * down d)
above_beyond (fin false n d) (fin true m e) h =
    let a = n * up d * down e in
    let b = m * up e * down d in
    let none = ltb-false 0 (b + a) (not-true (ltb 0 (b + a)) (sym (both_zero a b) ∙ h)) in
    less_or_same a b ∙ ap not (le-ltb b a (omega arith))

-- and so has one at or below -t
pub below_beyond : (t x : Float) → le x (neg t) ≡ true → le t (magnitude x) ≡ true
below_beyond t x h = rw (← magnitude_neg x) (above_beyond t (neg x) (sym (le_across t x) ∙ h))

-- ---- For t above 0, at or above t and at or below -t exclude each other

-- no number without a sign is at most one with a sign, where one of them is not zero
apart : (a b : ℕ) → 0 < b + a → below false a true b || level false a true b ≡ false
apart a b h = both_zero a b ∙ ap not (lt-ltb 0 (b + a) h)

-- a number above 0 has a size
size_above : (n : ℕ) (d e : ℤ) → lt nought (fin false n d) ≡ true → 0 < n * up d * down e
unfolding lt
size_above n d e h = mul-pos (let more = ltb-true (0 * down d) (n * up d * 1) h in omega arith) (down_pos e)

-- what is at or above t is not at or below -t
pub above_not_below : (t x : Float) → lt nought t ≡ true → le t x ≡ true → le x (neg t) ≡ false
unfolding le neg
above_not_below nan x p h = absurd (false≢true p)
above_not_below (inf true) x p h = absurd (false≢true p)
above_not_below (inf false) nan p h = refl
above_not_below (inf false) (inf true) p h = absurd (false≢true h)
above_not_below (inf false) (inf false) p h = refl
above_not_below (inf false) (fin s m e) p h = absurd (false≢true h)
above_not_below (fin true n d) x p h = absurd (false≢true p)
above_not_below (fin false n d) nan p h = refl
above_not_below (fin false n d) (inf true) p h = absurd (false≢true h)
above_not_below (fin false n d) (inf false) p h = refl
above_not_below (fin false n d) (fin true m e) p h =
    let some = size_above n d e p in
    both h (apart (n * up d * down e) (m * up e * down d) (omega arith))
above_not_below (fin false n d) (fin false m e) p h =
    let some = size_above n d e p in
    apart (m * up e * down d) (n * up d * down e) (omega arith)

-- nor the other way
pub below_not_above : (t x : Float) → lt nought t ≡ true → le x (neg t) ≡ true → le t x ≡ false
below_not_above t x p h = elim (truth (le t x)) [ inl k ↦ both h (above_not_below t x p k) | inr k ↦ k ]
