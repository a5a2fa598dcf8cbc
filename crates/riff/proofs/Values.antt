-- A value's sample is exactly the value over 32,768, and the value of a sample in range has 16 bits, which a value's sample gives back.
-- Assumes nothing.
use Rattle.std.proofs.Common.{◌≡◌, ℕ, zero, suc, ◌+◌, ◌-◌, ◌*◌, ◌/◌, ◌^◌, ◌<◌, ◌≤◌, min, Bool, true, false, cond, T, ltb, ℤ, pos, negsuc, sym, refl, ap, ◌∙◌, subst, inl, inr, true≢false, le_trans, lt_of_lt_of_le, lt_of_le_of_lt, le_of_lt, mul-le-mul_right, mul_assoc, mul_comm, mul-le-mul_left, mul-lt-mul_of_pos_right, mul-pos, zero-mul, mul-one, mul_right_comm, mul-div_cancel, arith, lit<, lit≤, pow_pos, pow_mono, pow-add, ltb-false, ltb-true, le-ltb, lt-ltb, le-leb}
use mathlib.Core.Bool.{false≢true}
use native.Mathlib.Nat.{min-eq_left, min-eq_right, min-le_right}
use lib.Ieee.{Float, nan, inf, fin, binary32, up, down, below, neg, lt, le, mul, div, round, of_int, of_bits, to_bits, to_unsigned, fits}
use lib.Ieee.Fits.{down_pos, mul-fits, round-fits}
use lib.Ieee.Bits.{is_true}
use lib.Ieee.Exact.{HasValue, round_exact}
use lib.Ieee.Back.{round_whole}
use lib.Ieee.Scale.{round_same}
use lib.Ieee.Order.{le_of_values}
use borrow.Author.Tests.{lt-leb}
use Rattle.std.specs.Prelude.{if◌then◌else◌}
use Rattle.leaves.specs.Arithmetic.{nought, float}
use Rattle.leaves.specs.Floats.{magnitude, largest, in_range, rounded, held}
use Rattle.leaves.proofs.Choice.{picks_by}
use Rattle.leaves.proofs.Numbers.{lt_or_ge, exponents}
use Rattle.leaves.proofs.Values.{number_of, rescaled, back, finite_of, finite_value, neg_value, magnitude_value}
use Rattle.leaves.proofs.Rounding.{neg_round}
use Rattle.leaves.proofs.Comparing.{lt_of_wholes}
use Rattle.leaves.proofs.order.Laws.{held_tests}
use Rattle.leaves.proofs.whole.Laws.{rounded_of_value, rounded_value, whole_stays}
use Rattle.leaves.proofs.words.Laws.{range_is, range_tells, word_fits, at_most_largest}
use Rattle.riff.specs.Values.{all_values, below_zero, size_of, sample_word, scale, least, most, whole_of, in_sixteen, value_of}
use Rattle.riff.specs.Consequences.{ExactlyThat, ValuesAreInRange, ProductIsExact, EveryValueBack, SixteenBits}

-- ---- The floats of the code's literals

scale_word : of_bits binary32 0x47000000 ≡ scale
unfolding of_bits
scale_word = refl

least_word : of_bits binary32 0xc7000000 ≡ least
unfolding of_bits
least_word = refl

most_word : of_bits binary32 0x46fffe00 ≡ most
unfolding of_bits
most_word = refl

-- ---- Reading

-- what the rules say of a value's word
sample_is : (v : ℕ) → sample_word v ≡ to_bits binary32 (round binary32 (below_zero v) (size_of v) 32768)
unfolding sample_word
sample_is v = refl

-- a whole number over 32,768
quotient : (x : Float) (n : ℕ) → HasValue x false n 1 → div binary32 x scale ≡ round binary32 false n 32768
unfolding div
quotient nan n v = absurd v
quotient (inf t) n v = absurd v
quotient (fin true m e) n v = absurd (true≢false v.0)
quotient (fin false m e) n v =
    round_same binary32 false (m * up e * 1) (32768 * down e) n 32768 (mul-pos (lit< tt) (down_pos e)) (lit< tt)
    (ap (λ (z : ℕ). z * 32768) v.1 ∙ mul_assoc n (down e) 32768 ∙ ap (λ (z : ℕ). n * z) (mul_comm (down e) 32768))

-- the code's quotient of a count
count_quotient : (x : Float) (n : ℕ) → n ≤ 32768 → x ≡ of_int binary32 (pos n)
    → div binary32 x (of_bits binary32 0x47000000) ≡ round binary32 false n 32768
unfolding of_int
count_quotient x n h e = rw (scale_word, e) (quotient (round binary32 false n 1) n (round_whole binary32 false n (omega arith)))

-- the word of a value that is not below zero, and of one that is
module _ (v : ℕ) (x : Float) (word : ℕ) where
  pub plain_sample : v < 32768 → x ≡ of_int binary32 (pos v) → word ≡ to_bits binary32 (div binary32 x (of_bits binary32 0x47000000))
      → word ≡ sample_word v
  plain_sample h e is = rw (sample_is v, lt-leb 32768 v h) (is ∙ ap (to_bits binary32) (count_quotient x v (omega arith) e))

  pub signed_sample : 32768 ≤ v → x ≡ of_int binary32 (pos (65536 - v))
      → word ≡ to_bits binary32 (neg (div binary32 x (of_bits binary32 0x47000000))) → word ≡ sample_word v
  signed_sample h e is =
      rw (sample_is v, le-leb 32768 v h)
      (is
      ∙ ap (λ (y : Float). to_bits binary32 (neg y)) (count_quotient x (65536 - v) (omega arith) e)
      ∙ ap (to_bits binary32) (neg_round binary32 (65536 - v) 32768))

-- how far 16 bits reach, below zero and above
abbrev pub reach : Bool → ℕ
reach true = 32768
reach false = 32767

-- no value is larger than that
size_reach : (v : ℕ) → v < all_values → size_of v ≤ reach (below_zero v)
size_reach v h = elim (lt_or_ge v 32768) [
  | inl l ↦ rw (lt-leb 32768 v l) (omega arith)
  | inr g ↦ rw (le-leb 32768 v g) (omega arith)
]

-- so none is more than 32,768 in size
size_most : (v : ℕ) → v < all_values → size_of v ≤ 32768
size_most v h = le_trans (size_reach v h) (either_way (below_zero v))
  where
    either_way : (s : Bool) → reach s ≤ 32768
    either_way true = lit≤ tt
    either_way false = lit≤ tt

-- the float of a value's word is the rounded quotient
sample_back : (v : ℕ) → float (sample_word v) ≡ round binary32 (below_zero v) (size_of v) 32768
unfolding float
sample_back v = back binary32 (round binary32 (below_zero v) (size_of v) 32768) (sample_word v) (round-fits binary32 (below_zero v) (size_of v) 32768) (sample_is v)

-- which loses nothing: 24 digits hold the value, and the quotient only moves the exponent
pub exactly_that : ExactlyThat
exactly_that v h =
    rw (sample_back v)
    (round_exact binary32 (below_zero v) (size_of v) 32768 (size_of v) 134 (lit< tt)
    (lt_of_le_of_lt (size_most v h) (lit< tt))
    (lt_of_le_of_lt (mul-le-mul_right (2 ^ 134) (size_most v h)) (lit< tt))
    (sym (mul_assoc (size_of v) (2 ^ 134) 32768)))

pub values_are_in_range : ValuesAreInRange
values_are_in_range v h =
    let x = float (sample_word v) in
    let is = exactly_that v h in
    let small : T (le (magnitude x) largest) =
    le_of_values (magnitude x) largest (size_of v) 32768 65536 1 (lit< tt) (lit< tt) (magnitude_value x (below_zero v) (size_of v) 32768 is) (refl, refl)
    (let most = size_most v h in omega arith) in
    rw (range_is (sample_word v), finite_of x (below_zero v) (size_of v) 32768 is) (is_true _ small)

-- ---- Writing: the product

-- a number times 32,768 is a fraction, rounded
times : (s : Bool) (m : ℕ) (e : ℤ) → mul binary32 (fin s m e) scale ≡ round binary32 s (m * up e * 32768) (down e)
unfolding mul
times true m e = ap (round binary32 true (m * up e * 32768)) (mul-one (down e))
times false m e = ap (round binary32 false (m * up e * 32768)) (mul-one (down e))

-- which loses nothing: only the exponent moves, and not beyond the largest
exact : (s : Bool) (m : ℕ) (e : ℤ) → T (fits binary32 (fin s m e)) → m * up e ≤ 65536 * down e
    → HasValue (round binary32 s (m * up e * 32768) (down e)) s (m * up e * 32768) (down e)
exact s zero e holds h =
    round_exact binary32 s (0 * up e * 32768) (down e) 0 0 (down_pos e) (lit< tt) (lit< tt)
    (ap (λ (z : ℕ). z * 32768 * 2 ^ 149) (zero-mul (up e)) ∙ sym (zero-mul (down e)))
exact s (suc m) (pos k) holds h =
    let number = number_of binary32 s m (pos k) holds in
    let units : suc m * 2 ^ k * 2 ^ 164 ≡ suc m * 2 ^ (k + 164) =
    mul_assoc (suc m) (2 ^ k) (2 ^ 164) ∙ ap (λ (z : ℕ). suc m * z) (sym (pow-add 2 k 164)) in
    let bound : suc m * 2 ^ (k + 164) < 2 ^ 277 =
    subst (λ (z : ℕ). z < 2 ^ 277) units (lt_of_le_of_lt (mul-le-mul_right (2 ^ 164) h) (lit< tt)) in
    round_exact binary32 s (suc m * 2 ^ k * 32768) 1 (suc m) (k + 164) (lit< tt) number.few bound
    (mul_assoc (suc m * 2 ^ k) 32768 (2 ^ 149) ∙ units ∙ sym (mul-one (suc m * 2 ^ (k + 164))))
exact s (suc m) (negsuc k) holds h =
    let number = number_of binary32 s m (negsuc k) holds in
    let few : suc k ≤ 149 = exponents (suc k) 149 number.fine in
    let j = 164 - suc k in
    let places : j + suc k ≡ 164 = omega arith in
    let power : 2 ^ j * 2 ^ suc k ≡ 2 ^ 164 = sym (pow-add 2 j (suc k)) ∙ ap (λ (z : ℕ). 2 ^ z) places in
    let bound : suc m * 2 ^ j < 2 ^ 277 =
    lt_of_lt_of_le (mul-lt-mul_of_pos_right number.few (pow_pos j)) (mul-le-mul_left (2 ^ 24) (pow_mono {j = 253} (omega arith))) in
    round_exact binary32 s (suc m * 1 * 32768) (2 ^ suc k) (suc m) j (pow_pos (suc k)) number.few bound
    (mul_assoc (suc m * 1) 32768 (2 ^ 149)
    ∙ ap (λ (z : ℕ). z * 2 ^ 164) (mul-one (suc m))
    ∙ ap (λ (z : ℕ). suc m * z) (sym power)
    ∙ sym (mul_assoc (suc m) (2 ^ j) (2 ^ suc k)))

-- the same of any float that is in range, as any fraction
product : (x : Float) (s : Bool) (a c : ℕ) → T (fits binary32 x) → le (magnitude x) largest ≡ true → HasValue x s a c
    → HasValue (mul binary32 x scale) s (a * 32768) c
product nan s a c holds h v = absurd v
product (inf t) s a c holds h v = absurd v
product (fin t m e) s a c holds h v =
    rescaled (mul binary32 (fin t m e) scale) s (m * up e * 32768) (down e) (a * 32768) c (down_pos e)
    (mul_right_comm (m * up e) 32768 c ∙ ap (λ (z : ℕ). z * 32768) v.1 ∙ mul_right_comm a (down e) 32768)
    (rw (times t m e, ← v.0) (exact t m e holds (at_most_largest m e h)))

pub product_is_exact : ProductIsExact
product_is_exact w s a c within v = product (float w) s a c (word_fits w) (range_tells w within).1 v

-- ---- Writing: the whole number

-- held to the two ends, a whole number is the nearer to zero of itself and the end on its side
held_whole : (x : Float) (s : Bool) (k : ℕ) → HasValue x s k 1 → HasValue (held least most x) s (min k (reach s)) 1
held_whole x true k v =
    let under : lt x least ≡ ltb 32768 k = lt_of_wholes x least true true k 32768 v (refl, refl) in
    let over : lt most x ≡ false = lt_of_wholes most x false true 32767 k (refl, refl) v in
    elim (lt_or_ge 32768 k) [
      | inl l ↦ rw (← held_tests least most x (under ∙ lt-ltb 32768 k l) over, min-eq_right (le_of_lt l)) (refl, refl)
      | inr g ↦ rw (← held_tests least most x (under ∙ le-ltb 32768 k g) over, min-eq_left g) v
    ]
held_whole x false k v =
    let under : lt x least ≡ false = lt_of_wholes x least false true k 32768 v (refl, refl) in
    let over : lt most x ≡ ltb 32767 k = lt_of_wholes most x false false 32767 k (refl, refl) v in
    elim (lt_or_ge 32767 k) [
      | inl l ↦ rw (← held_tests least most x under (over ∙ lt-ltb 32767 k l), min-eq_right (le_of_lt l)) (refl, refl)
      | inr g ↦ rw (← held_tests least most x under (over ∙ le-ltb 32767 k g), min-eq_left g) v
    ]

-- x is a whole number that 16 bits have
pub record Sixteen (x : Float) : Type 0 where
  pub sign : Bool
  pub size : ℕ
  pub is : HasValue x sign size 1
  pub bound : size ≤ reach sign

-- the rule's steps
whole_is : (w : ℕ) → whole_of w ≡ held least most (rounded (mul binary32 (float w) scale))
unfolding whole_of
whole_is w = refl

-- those of the code are the same
pub whole_by_code : (w : ℕ) (f r x : Float) → f ≡ of_bits binary32 w → r ≡ rounded (mul binary32 f (of_bits binary32 0x47000000))
    → x ≡ held (of_bits binary32 0xc7000000) (of_bits binary32 0x46fffe00) r → x ≡ whole_of w
unfolding float
whole_by_code w f r x p q e = rw (whole_is w, e, least_word, most_word, q, p, scale_word) refl

-- they give such a number of a sample in range
pub whole_sixteen : (w : ℕ) → in_range w ≡ true → Sixteen (whole_of w)
whole_sixteen w within =
    let v = finite_value (float w) (range_tells w within).0 in
    let p = product_is_exact w v.0 v.1 v.2 within v.3 in
    let r = rounded_value (mul binary32 (float w) scale) v.0 (v.1 * 32768) v.2 (mul-fits binary32 (float w) scale) p in
    record {
      sign = v.0;
      size = min r.0 (reach v.0);
      is = rw (whole_is w) (held_whole (rounded (mul binary32 (float w) scale)) v.0 r.0 r.1);
      bound = min-le_right r.0 (reach v.0);
    }

-- ---- Writing: in 16 bits

-- a whole number without a sign, or a zero, as a number of 64 bits
unsigned_of : (x : Float) (s : Bool) (k : ℕ) → HasValue x s k 1 → k ≤ cond s 0 32768 → to_unsigned 64 x ≡ k
unfolding to_unsigned
unsigned_of nan s k v h = absurd v
unsigned_of (inf t) s k v h = absurd v
unsigned_of (fin true m e) true k v h = omega arith
unsigned_of (fin true m e) false k v h = absurd (true≢false v.0)
unsigned_of (fin false m e) true k v h = absurd (false≢true v.0)
unsigned_of (fin false m e) false k v h =
    let cut : m * up e / down e ≡ k = ap (λ (z : ℕ). z / down e) (sym (mul-one (m * up e)) ∙ v.1) ∙ mul-div_cancel k (down_pos e) in
    rw cut (min-eq_left (omega arith))

-- x without its fraction is a number of 64 bits, from lo to hi
pub record Cast (lo hi : ℕ) (x : Float) : Type 0 where
  pub above : T (lt (fin true 1 (pos 0)) x)
  pub under : T (lt x (fin false 1 (pos 64)))
  pub lower : lo ≤ to_unsigned 64 x
  pub upper : to_unsigned 64 x ≤ hi

cast : (x : Float) (s : Bool) (k lo hi : ℕ) → HasValue x s k 1 → k ≤ cond s 0 32768 → lo ≤ k → k ≤ hi → Cast lo hi x
cast x s k lo hi v h l u =
    record {
      above = rw (lt_of_wholes (fin true 1 (pos 0)) x true s 1 k (refl, refl) v, after s k h) tt;
      under = rw (lt_of_wholes x (fin false 1 (pos 64)) s false k (2 ^ 64) v (refl, refl), before s k h) tt;
      lower = rw (unsigned_of x s k v h) l;
      upper = rw (unsigned_of x s k v h) u;
    }
  where
    after : (s : Bool) (k : ℕ) → k ≤ cond s 0 32768 → below true 1 s k ≡ true
    after true k h = lt-ltb k 1 (omega arith)
    after false k h = lt-ltb 0 (1 + k) (omega arith)

    before : (s : Bool) (k : ℕ) → k ≤ cond s 0 32768 → below s k false (2 ^ 64) ≡ true
    before true k h = lt-ltb 0 (k + 2 ^ 64) (omega arith)
    before false k h = lt-ltb k (2 ^ 64) (omega arith)

-- how a whole number compares with zero
against_nought : (x : Float) (s : Bool) (k : ℕ) → HasValue x s k 1 → lt x nought ≡ below s k false 0
against_nought x s k v = lt_of_wholes x nought s false k 0 v (refl, refl)

-- one below zero is from 1 to 32,768 in size
pub negated : (x : Float) → Sixteen x → lt x nought ≡ true → Cast 1 32768 (neg x)
negated x h t = go h.sign h.size h.is h.bound
  where
    go : (s : Bool) (k : ℕ) → HasValue x s k 1 → k ≤ reach s → Cast 1 32768 (neg x)
    go true k v b = cast (neg x) false k 1 32768 (neg_value x true k 1 v) b (omega (arith, ltb-true 0 (k + 0) (sym (against_nought x true k v) ∙ t))) b
    go false k v b = absurd (omega (arith, ltb-true k 0 (sym (against_nought x false k v) ∙ t)))

-- and one that is not is at most 32,767
pub plain : (x : Float) → Sixteen x → lt x nought ≡ false → Cast 0 32767 x
plain x h t = go h.sign h.size h.is h.bound
  where
    go : (s : Bool) (k : ℕ) → HasValue x s k 1 → k ≤ reach s → Cast 0 32767 x
    go true k v b =
        let none = ltb-false 0 (k + 0) (sym (against_nought x true k v) ∙ t) in
        cast x true k 0 32767 v (omega arith) (omega arith) (omega arith)
    go false k v b = cast x false k 0 32767 v (omega arith) (omega arith) b

-- what the rules say of a whole number in 16 bits, and of a sample's value
sixteen_is : (x : Float) → in_sixteen x ≡ if lt x nought then all_values - to_unsigned 64 (neg x) else to_unsigned 64 x
unfolding in_sixteen
sixteen_is x = refl

value_is : (w : ℕ) → value_of w ≡ in_sixteen (whole_of w)
unfolding value_of
value_is w = refl

-- by what the code's test gave
module _ (w : ℕ) (x : Float) (r : ℕ) (is : x ≡ whole_of w) where
  pub value_negated : lt x nought ≡ true → r ≡ to_unsigned 64 (neg x) → all_values - r ≡ value_of w
  value_negated t e = rw (value_is w, ← is, sixteen_is x, t, e) refl

  pub value_plain : lt x nought ≡ false → r ≡ to_unsigned 64 x → r ≡ value_of w
  value_plain t e = rw (value_is w, ← is, sixteen_is x, t, e) refl

pub sixteen_bits : SixteenBits
sixteen_bits w within =
    let x = whole_of w in
    rw (value_is w, sixteen_is x)
    (picks_by (λ (n : ℕ). n < 65536) (lt x nought) (all_values - to_unsigned 64 (neg x)) (to_unsigned 64 x)
    (λ (t : lt x nought ≡ true). let known = negated x (whole_sixteen w within) t in omega arith)
    (λ (t : lt x nought ≡ false). let known = plain x (whole_sixteen w within) t in omega arith))

-- ---- Both ways

-- a value's sample, times 32,768, is the value, which stays
whole_back : (v : ℕ) → v < all_values → HasValue (whole_of (sample_word v)) (below_zero v) (size_of v) 1
whole_back v h =
    let s = below_zero v in
    let n = size_of v in
    let x = mul binary32 (float (sample_word v)) scale in
    let p : HasValue x s (n * 32768) 32768 = product_is_exact (sample_word v) s n 32768 (values_are_in_range v h) (exactly_that v h) in
    let r : rounded x ≡ round binary32 s n 1 =
    rounded_of_value x s (n * 32768) 32768 (lit< tt) p ∙ ap (λ (z : ℕ). round binary32 s z 1) (whole_stays n 32768 (lit< tt)) in
    let few : n ≤ 2 ^ 24 = le_trans (size_most v h) (lit≤ tt) in
    let stays : min n (reach s) ≡ n = min-eq_left (size_reach v h) in
    rw (whole_is (sample_word v), r)
    (subst (λ (k : ℕ). HasValue (held least most (round binary32 s n 1)) s k 1) stays
    (held_whole (round binary32 s n 1) s n (round_whole binary32 s n few)))

-- so it is the value in 16 bits
from_plain : (x : Float) (k : ℕ) → HasValue x false k 1 → k ≤ 32768 → in_sixteen x ≡ k
from_plain x k v h = rw (sixteen_is x, against_nought x false k v, le-ltb k 0 (omega arith)) (unsigned_of x false k v h)

from_signed : (x : Float) (k : ℕ) → HasValue x true k 1 → 0 < k → k ≤ 32768 → in_sixteen x ≡ all_values - k
from_signed x k v p h =
    rw (sixteen_is x, against_nought x true k v, lt-ltb 0 (k + 0) (omega arith))
    (ap (λ (z : ℕ). all_values - z) (unsigned_of (neg x) false k (neg_value x true k 1 v) h))

pub every_value_back : EveryValueBack
every_value_back v h =
    let x = whole_of (sample_word v) in
    value_is (sample_word v) ∙ elim (lt_or_ge v 32768) [
      | inl l ↦ from_plain x v (rw (lt-leb 32768 v l) at (whole_back v h)) (omega arith)
      | inr g ↦
          from_signed x (all_values - v) (rw (le-leb 32768 v g) at (whole_back v h)) (omega arith) (omega arith)
          ∙ (let twice : 65536 - (65536 - v) ≡ v = omega arith in twice)
    ]
