-- How `round` of lib.Ieee rounds a number that is written with binary digits: which digits it keeps, and the pattern of
-- what it gives. Each law holds for both formats. Assumes nothing.
use Rattle.std.proofs.Common.{◌≡◌, ℕ, zero, suc, ◌+◌, ◌-◌, ◌*◌, ◌/◌, ◌%◌, ◌^◌, ◌<◌, ◌≤◌, Bool, true, false, cond, ltb, ◌⊎◌, sym, refl, ap, ◌∙◌, inl, inr, zero-le, le_trans, le_of_eq, lt_of_lt_of_le, lt_of_le_of_lt, mul-le-mul_right, mul_assoc, mul_comm, div-lt_iff_lt-mul, mul-le-mul, eq-or-lt_of_le, mul-le-mul_left, mul-lt-mul_of_pos_right, mul-pos, lt_of_not-le, le-div_iff_mul-le, not-le_of_lt, le_of_mul-le-mul_right, mul_left_comm, add-one, arith, pow_pos, pow_mono, pow-add, le-ltb}
use Prim.Native.Nat.{compare}
use native.Mathlib.Nat.{mul-lt-mul_of_pos_left}
use lib.Pow.{pow-lt}
use lib.Ieee.{inf, Format, binary32, binary64, prec, emax, low, size, odd, units, round, hid, ones, neg, of_bits}
use lib.Ieee.Digits.{size-lt, size-le}
use lib.Ieee.Fits.{round_is, round-fits, nearest-le, two}
use lib.Ieee.Bits.{of_bits-fits}
use lib.Ieee.Nearest.{closest, closest_same, nearest-ge}
use lib.Ieee.Exact.{units_val}
use Rattle.leaves.specs.Steps.{signed}
use Rattle.leaves.proofs.Numbers.{lt_or_ge, compare_lt}
use Rattle.leaves.proofs.Values.{same_value, value_of_sum}

-- ---- which digits are kept

-- a number from 2 ^ j on has more than j digits
pub size_gt : (n j : ℕ) → 2 ^ j ≤ n → j < size n
size_gt n j h = lt_of_not-le (λ (g : size n ≤ j). not-le_of_lt (lt_of_lt_of_le (size-lt n) (pow_mono g)) h)

-- q * 2 ^ j / 2 ^ l is rounded in units of the format's least value. Of q, d digits are dropped, and what is left
-- stands k places up: none, where what is left has no more digits than the format keeps, and else so many that just
-- these are left.
module _ (f : Format) (s : Bool) (q j l d k : ℕ) (places : j + low f + d ≡ l + k) where
  scaled : q * 2 ^ j * 2 ^ low f * 2 ^ d ≡ q * (2 ^ l * 2 ^ k)
  scaled = simp (mul_assoc, ← pow-add) (ap (λ (z : ℕ). q * 2 ^ z) places)

  -- a bound on q, in units
  below : (b : ℕ) → q < 2 ^ (b + d) → q * 2 ^ j * 2 ^ low f / 2 ^ l < 2 ^ (b + k)
  below b h =
      let bound : q * (2 ^ l * 2 ^ k) < 2 ^ (b + k) * 2 ^ l * 2 ^ d =
      lt_of_lt_of_le (mul-lt-mul_of_pos_right h (mul-pos (pow_pos l) (pow_pos k))) (le_of_eq (simp (pow-add, mul_assoc, mul_comm, mul_left_comm))) in
      (div-lt_iff_lt-mul (pow_pos l)).1
      (lt_of_not-le (λ (g : 2 ^ (b + k) * 2 ^ l ≤ q * 2 ^ j * 2 ^ low f).
      not-le_of_lt bound (le_trans (mul-le-mul_right (2 ^ d) g) (le_of_eq scaled))))

  above : (b : ℕ) → 2 ^ (b + d) ≤ q → 2 ^ (b + k) ≤ q * 2 ^ j * 2 ^ low f / 2 ^ l
  above b h =
      let bound : 2 ^ (b + k) * 2 ^ l * 2 ^ d ≤ q * (2 ^ l * 2 ^ k) =
      le_trans (le_of_eq (simp (pow-add, mul_assoc, mul_comm, mul_left_comm))) (mul-le-mul_right (2 ^ l * 2 ^ k) h) in
      (le-div_iff_mul-le (pow_pos l)).1 (le_of_mul-le-mul_right (le_trans bound (le_of_eq (sym scaled))) (pow_pos d))

  places_up : q < 2 ^ (prec f + d) → (k ≡ 0) ⊎ (2 ^ (prec f - 1 + d) ≤ q) → size (q * 2 ^ j * 2 ^ low f / 2 ^ l) - prec f ≡ k
  places_up h (inl e) =
      let most = size-le _ (prec f + k) (below (prec f) h) in
      none (size (q * 2 ^ j * 2 ^ low f / 2 ^ l)) (prec f) k most e
    where
      none : (z p k : ℕ) → z ≤ p + k → k ≡ 0 → z - p ≡ k
      none z p k h e = omega arith
  places_up h (inr g) =
      let most = size-le _ (prec f + k) (below (prec f) h) in
      let least = size_gt _ (prec f - 1 + k) (above (prec f - 1) g) in
      just (size (q * 2 ^ j * 2 ^ low f / 2 ^ l)) (prec f) k (two f) most least
    where
      just : (z p k : ℕ) → 2 ≤ p → z ≤ p + k → p - 1 + k < z → z - p ≡ k
      just z p k t h e = omega arith

  pub round_digits : q < 2 ^ (prec f + d) → (k ≡ 0) ⊎ (2 ^ (prec f - 1 + d) ≤ q) → round f s (q * 2 ^ j) (2 ^ l) ≡ units f s (closest q (2 ^ d)) k
  round_digits h lead =
      round_is f s (q * 2 ^ j) (2 ^ l)
      ∙ ap (λ (z : ℕ). units f s (closest (q * 2 ^ j * 2 ^ low f) (2 ^ l * 2 ^ z)) z) (places_up h lead)
      ∙ ap (λ (z : ℕ). units f s z k)
      (closest_same (q * 2 ^ j * 2 ^ low f) (2 ^ l * 2 ^ k) q (2 ^ d) (mul-pos (pow_pos l) (pow_pos k)) (pow_pos d) scaled)

-- ---- the pattern of a rounded number

-- the largest patterns of finite numbers, and the infinity's
overflows : (f : Format) (s : Bool) → of_bits f (signed f s (ones f * hid f)) ≡ inf s
unfolding of_bits
overflows binary32 true = refl
overflows binary32 false = refl
overflows binary64 true = refl
overflows binary64 false = refl

-- a number of 2 ^ (emax + 1) or more is an infinity
pub units_over : (f : Format) (s : Bool) (w k : ℕ) → 2 ^ (low f + suc (emax f)) ≤ w * 2 ^ k → units f s w k ≡ inf s
unfolding units
units_over f s w k h = rw (le-ltb _ _ h) refl

-- w digits, k places up, whose pattern is below the infinity's are a number below 2 ^ (emax + 1)
under : (f : Format) (k w : ℕ) → (k ≡ 0) ⊎ (hid f ≤ w) → w ≤ 2 * hid f → k * hid f + w < ones f * hid f → w * 2 ^ k < 2 ^ (low f + suc (emax f))
under f k w lead most h = elim (lt_or_ge w (2 * hid f)) [
  | inl l ↦
      lt_of_lt_of_le (mul-lt-mul_of_pos_right l (pow_pos k))
      (le_trans (mul-le-mul_left (2 * hid f) (pow_mono (few f k w lead h))) (le_of_eq (largest f)))
  | inr g ↦
      lt_of_le_of_lt (mul-le-mul_right (2 ^ k) most)
      (lt_of_lt_of_le (mul-lt-mul_of_pos_left (pow-lt (fewer f k w g h)) (double f)) (le_of_eq (largest f)))
]
  where
    few : (f : Format) (k w : ℕ) → (k ≡ 0) ⊎ (hid f ≤ w) → k * hid f + w < ones f * hid f → k ≤ ones f - 2
    few f k w (inl e) h = rw e zero-le
    few binary32 k w (inr g) h = omega arith
    few binary64 k w (inr g) h = omega arith

    fewer : (f : Format) (k w : ℕ) → 2 * hid f ≤ w → k * hid f + w < ones f * hid f → k < ones f - 2
    fewer binary32 k w g h = omega arith
    fewer binary64 k w g h = omega arith

    largest : (f : Format) → 2 * hid f * 2 ^ (ones f - 2) ≡ 2 ^ (low f + suc (emax f))
    largest binary32 = refl
    largest binary64 = refl

    double : (f : Format) → 0 < 2 * hid f
    double binary32 = omega arith
    double binary64 = omega arith

-- and those whose pattern is the infinity's are 2 ^ (emax + 1) or more
over : (f : Format) (k w : ℕ) → (k ≡ 0) ⊎ (hid f ≤ w) → w ≤ 2 * hid f → k * hid f + w ≡ ones f * hid f → 2 ^ (low f + suc (emax f)) ≤ w * 2 ^ k
over f k w lead most e = elim (lt_or_ge w (2 * hid f)) [
  | inl l ↦ le_trans (le_of_eq (sym (upper f))) (mul-le-mul (leads f k w lead most e) (pow_mono (one_less f k w l e)))
  | inr g ↦ le_trans (le_of_eq (sym (lower f))) (mul-le-mul g (pow_mono (two_less f k w most e)))
]
  where
    upper : (f : Format) → hid f * 2 ^ (ones f - 1) ≡ 2 ^ (low f + suc (emax f))
    upper binary32 = refl
    upper binary64 = refl

    lower : (f : Format) → 2 * hid f * 2 ^ (ones f - 2) ≡ 2 ^ (low f + suc (emax f))
    lower binary32 = refl
    lower binary64 = refl

    leads : (f : Format) (k w : ℕ) → (k ≡ 0) ⊎ (hid f ≤ w) → w ≤ 2 * hid f → k * hid f + w ≡ ones f * hid f → hid f ≤ w
    leads f k w (inr g) most e = g
    leads binary32 k w (inl z) most e = omega arith
    leads binary64 k w (inl z) most e = omega arith

    one_less : (f : Format) (k w : ℕ) → w < 2 * hid f → k * hid f + w ≡ ones f * hid f → ones f - 1 ≤ k
    one_less binary32 k w l e = omega arith
    one_less binary64 k w l e = omega arith

    two_less : (f : Format) (k w : ℕ) → w ≤ 2 * hid f → k * hid f + w ≡ ones f * hid f → ones f - 2 ≤ k
    two_less binary32 k w l e = omega arith
    two_less binary64 k w l e = omega arith

-- What `round` gives as w digits, k places up, has the pattern k * hid + w. At the last step that is the infinity's.
pub round_pattern : (f : Format) (s : Bool) (num den k w : ℕ) → round f s num den ≡ units f s w k
    → (k ≡ 0) ⊎ (hid f ≤ w) → w ≤ 2 * hid f → k * hid f + w ≤ ones f * hid f → of_bits f (signed f s (k * hid f + w)) ≡ round f s num den
round_pattern f s num den k w e lead most h = elim (eq-or-lt_of_le h) [
  | inl z ↦ ap (λ (p : ℕ). of_bits f (signed f s p)) z ∙ overflows f s ∙ sym (e ∙ units_over f s w k (over f k w lead most z))
  | inr l ↦
      same_value f s (w * 2 ^ k) (2 ^ low f) (of_bits f (signed f s (k * hid f + w))) (round f s num den) (pow_pos (low f))
      (of_bits-fits f (signed f s (k * hid f + w))) (round-fits f s num den) (value_of_sum f s k w lead most l)
      (rw e (units_val f s w k (under f k w lead most l)))
]

-- ---- the sign goes through `round`
neg_odd : (d : ℕ) (q k l : ℕ) → neg (odd d false q k l) ≡ odd d true q k l
unfolding neg odd
neg_odd d zero k l = refl
neg_odd d (suc q) k l = refl

pub neg_round : (f : Format) (num den : ℕ) → neg (round f false num den) ≡ round f true num den
unfolding neg units
neg_round f num den =
    let u = size (num * 2 ^ low f / den) - prec f in
    let w = closest (num * 2 ^ low f) (den * 2 ^ u) in
    ap neg (round_is f false num den) ∙ go w u (ltb (w * 2 ^ u) (2 ^ (low f + suc (emax f)))) ∙ sym (round_is f true num den)
  where
    go : (w u : ℕ) (b : Bool)
        → neg (cond b (odd (suc (prec f)) false w u (low f)) (inf false)) ≡ cond b (odd (suc (prec f)) true w u (low f)) (inf true)
    go w u true = neg_odd (suc (prec f)) w u (low f)
    go w u false = refl

-- ---- a / b to the nearest whole number: the whole part where less than half of b is left over
pub closest_down : (a b : ℕ) → a % b * 2 < b → closest a b ≡ a / b
closest_down a b h = rw (compare_lt _ _ h) refl

-- it is the whole part, or one more
pub closest_least : (a b : ℕ) → a / b ≤ closest a b
closest_least a b = nearest-ge (a / b) (compare (a % b * 2) b)

pub closest_most : (a b : ℕ) → closest a b ≤ a / b + 1
closest_most a b = rw add-one (nearest-le (a / b) (compare (a % b * 2) b))
