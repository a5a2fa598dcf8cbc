-- Numbers scaled by powers of 2 and of 4: a number's one scale of a given length, where a scaled number rounds to itself,
-- and the scale at which the root of a double has 53 digits. Assumes nothing.
use Rattle.std.proofs.Common.{◌≡◌, ℕ, zero, suc, ◌+◌, ◌-◌, ◌*◌, ◌/◌, ◌^◌, ◌<◌, ◌≤◌, Bool, ℤ, pos, negsuc, sym, refl, ap, ◌∙◌, subst, inl, inr, le_trans, le_of_eq, lt_of_lt_of_le, le_of_suc-le-suc, lt_of_le_of_lt, mul-le-mul_right, zero-lt-suc, mul_assoc, mul_comm, mul-le-mul, le_antisymm, lt_of_mul-lt-mul_right, mul-lt-mul_of_pos_right, mul-pos, one-mul, lt_of_not-le, mul-one, sub-add_cancel, not-le_of_lt, le_of_mul-le-mul_right, mul-div_cancel, arith, pow_pos, pow_mono, pow-add, shl_lt}
use native.Mathlib.Nat.{eq_of_mul-eq-mul_right}
use native.Mathlib.Nat.{one-le-pow, pow-succ', pow-le-pow_right}
use lib.Pow.{pow-lt}
use lib.Ieee.{Format, prec, emax, low, up, down, size, round}
use lib.Ieee.Digits.{size-lt, size-le, size_reaches}
use lib.Ieee.Fits.{two, two-le_pos}
use lib.Ieee.Exact.{HasValue, round_exact}
use Rattle.leaves.proofs.Numbers.{lt_or_ge}
use Rattle.leaves.proofs.Rounding.{size_gt}

-- ---- a number in units

-- m * 2 ^ e in units of 2 ^ -l is a whole number, m with zeros appended, where the unit is small enough
pub units_of : (l m : ℕ) (e : ℤ) → down e ≤ 2 ^ l → (j : ℕ) × (m * up e * 2 ^ l ≡ m * 2 ^ j * down e)
units_of l m (pos k) h = (k + l, simp (pow-add, mul_assoc, mul-one))
units_of l m (negsuc k) h =
    let within : suc k ≤ l = le_of_suc-le-suc (lt_of_not-le (λ (g : suc l ≤ suc k). not-le_of_lt (pow-lt g) h)) in
    let whole : 2 ^ l ≡ 2 ^ (l - suc k) * 2 ^ suc k = ap (λ (z : ℕ). 2 ^ z) (sym (sub-add_cancel within)) ∙ pow-add 2 (l - suc k) (suc k) in
    (l - suc k, ap (λ (z : ℕ). m * 1 * z) whole ∙ simp (mul-one, mul_assoc))

-- ---- powers of 4

-- 4 ^ k is 2 ^ k twice
pub four : (k : ℕ) → 4 ^ k ≡ 2 ^ (k + k)
four zero = refl
four (suc k) =
    let next : 4 ^ suc k ≡ 4 * 4 ^ k = pow-succ' 4 k in
    let here = four k in
    let sum : suc k + suc k ≡ suc (suc (k + k)) = omega arith in
    let first : 2 ^ suc (suc (k + k)) ≡ 2 * 2 ^ suc (k + k) = pow-succ' 2 (suc (k + k)) in
    let second : 2 ^ suc (k + k) ≡ 2 * 2 ^ (k + k) = pow-succ' 2 (k + k) in
    let both = ap (λ (z : ℕ). 2 ^ z) sum in
    omega arith

pub four_pos : (k : ℕ) → 0 < 4 ^ k
four_pos k = one-le-pow k 4 (zero-lt-suc 3)

-- of two equal numbers n * 4 ^ i and n' * 4 ^ i', the first has no more zeros, where n is at least c and n' below 4 * c
scale_le : (c n n' i i' : ℕ) → c ≤ n → n' < 4 * c → n * 4 ^ i ≡ n' * 4 ^ i' → i ≤ i'
scale_le c n n' i i' l h e = le_of_suc-le-suc (lt_of_not-le (λ (g : suc i' ≤ i). more g))
  where
    more : suc i' ≤ i → ⊥
    more g =
        let below : n' * 4 ^ i' < 4 * c * 4 ^ i' = mul-lt-mul_of_pos_right h (four_pos i') in
        let above : c * 4 ^ suc i' ≤ n * 4 ^ i = mul-le-mul l (pow-le-pow_right (zero-lt-suc 3) g) in
        let same : c * 4 ^ suc i' ≡ 4 * c * 4 ^ i' = rw (pow-succ', mul_comm 4 c) (sym (mul_assoc c 4 (4 ^ i'))) in
        omega arith

-- so a number has one scale at which it lies from c to 4 * c
pub scale_only : (c n n' i i' : ℕ) → c ≤ n → n < 4 * c → c ≤ n' → n' < 4 * c → n * 4 ^ i ≡ n' * 4 ^ i' → (i ≡ i') × (n ≡ n')
scale_only c n n' i i' l h l' h' e =
    let same : i ≡ i' = le_antisymm (scale_le c n n' i i' l h' e) (scale_le c n' n i' i l' h (sym e)) in
    (same, eq_of_mul-eq-mul_right (4 ^ i) (four_pos i) n n' (e ∙ ap (λ (z : ℕ). n' * 4 ^ z) (sym same)))

-- ---- rounding a scaled number

-- a number up to 2 ^ p is one below it with zeros appended
shorter : (p q : ℕ) → 0 < p → q ≤ 2 ^ p → (w : ℕ) × (t : ℕ) × (w < 2 ^ p) × (w * 2 ^ t ≡ q)
shorter p q h l = elim (lt_or_ge q (2 ^ p)) [
  | inl b ↦ (q, 0, b, mul-one q)
  | inr g ↦ (1, p, pow-lt h, one-mul (2 ^ p) ∙ le_antisymm g l)
]

-- q * 2 ^ k / 2 ^ g rounds to itself, where q has no more digits than a format keeps,
-- and the fraction is a whole number of the format's least values that does not overflow
pub round_scaled : (f : Format) (s : Bool) (q k g h : ℕ) → q ≤ 2 ^ prec f → low f ≡ h + g → prec f + (k + h) < low f + suc (emax f)
    → HasValue (round f s (q * 2 ^ k) (2 ^ g)) s (q * 2 ^ k) (2 ^ g)
round_scaled f s q k g h few unit fine =
    let short = shorter (prec f) q (two-le_pos (prec f) (two f)) few in
    let w = short.0 in
    let t = short.1 in
    let whole : w * 2 ^ (t + (k + h)) ≡ q * 2 ^ (k + h) =
    ap (λ (z : ℕ). w * z) (pow-add 2 t (k + h)) ∙ sym (mul_assoc w (2 ^ t) (2 ^ (k + h))) ∙ ap (λ (z : ℕ). z * 2 ^ (k + h)) short.3 in
    let under : q * 2 ^ (k + h) < 2 ^ (low f + suc (emax f)) =
    lt_of_le_of_lt (le_trans (mul-le-mul_right (2 ^ (k + h)) few) (le_of_eq (sym (pow-add 2 (prec f) (k + h))))) (pow-lt fine) in
    let units : q * 2 ^ k * 2 ^ low f ≡ q * 2 ^ (k + h) * 2 ^ g =
    ap (λ (z : ℕ). q * 2 ^ k * 2 ^ z) unit ∙ simp (pow-add, mul_assoc) in
    round_exact f s (q * 2 ^ k) (2 ^ g) w (t + (k + h)) (pow_pos g) short.2
    (subst (λ (z : ℕ). z < 2 ^ (low f + suc (emax f))) (sym whole) under)
    (units ∙ ap (λ (z : ℕ). z * 2 ^ g) (sym whole))

-- ---- a number brought to the scale at which its root has 53 digits

-- n is a * 4 ^ 53 without the last 2 * k of its digits, which are zeros, and has 105 or 106 digits
pub record Scaled (a k n : ℕ) : Type 0 where
  pub whole : n * 4 ^ k ≡ a * 4 ^ 53
  pub least : 4 ^ 52 ≤ n
  pub most : n < 4 ^ 53

-- of an a of z digits, the last j of them zeros and no more than 53 before those, k is half of z, rounded up
scaled_by : (a m j z k : ℕ) → a ≡ m * 2 ^ j → z ≤ 53 + j → 0 < z → 2 ^ (z - 1) ≤ a → a < 2 ^ z → z ≤ k + k → k + k ≤ z + 1
    → Scaled a k (a * 4 ^ 53 / 4 ^ k)
scaled_by a m j z k e few some low high at_least_lem at_most = record { whole = whole; least = least; most = most }
  where
    i : ℕ
    i = j + 106 - (k + k)

    places : i + (k + k) ≡ j + 106
    places = omega arith

    digits : m * 2 ^ i * 4 ^ k ≡ a * 4 ^ 53
    digits =
        mul_assoc m (2 ^ i) (4 ^ k)
        ∙ ap (λ (x : ℕ). m * x) (ap (λ (x : ℕ). 2 ^ i * x) (four k) ∙ sym (pow-add 2 i (k + k)) ∙ ap (λ (x : ℕ). 2 ^ x) places ∙ pow-add 2 j 106)
        ∙ sym (mul_assoc m (2 ^ j) (2 ^ 106))
        ∙ ap (λ (x : ℕ). x * 2 ^ 106) (sym e)

    whole : a * 4 ^ 53 / 4 ^ k * 4 ^ k ≡ a * 4 ^ 53
    whole = subst (λ (x : ℕ). x / 4 ^ k * 4 ^ k ≡ x) digits (ap (λ (x : ℕ). x * 4 ^ k) (mul-div_cancel (m * 2 ^ i) (four_pos k)))

    quarter : 4 ^ k ≤ 4 * a
    quarter =
        let first : 2 ^ (k + k) ≤ 2 ^ suc (suc (z - 1)) = pow_mono (omega arith) in
        let second = pow-succ' 2 (suc (z - 1)) in
        let third = pow-succ' 2 (z - 1) in
        let square = four k in
        omega arith

    above : a < 4 ^ k
    above = lt_of_lt_of_le high (le_trans (pow_mono at_least_lem) (le_of_eq (sym (four k))))

    least : 4 ^ 52 ≤ a * 4 ^ 53 / 4 ^ k
    least = le_of_mul-le-mul_right {k = 4 ^ k} (le_trans (le_of_quarter (4 ^ k) a quarter) (le_of_eq (sym whole))) (four_pos k)
      where
        le_of_quarter : (x y : ℕ) → x ≤ 4 * y → 4 ^ 52 * x ≤ y * 4 ^ 53
        le_of_quarter x y h = omega arith

    most : a * 4 ^ 53 / 4 ^ k < 4 ^ 53
    most = lt_of_mul-lt-mul_right (4 ^ k) (lt_of_le_of_lt (le_of_eq whole) (lt_of_above a (4 ^ k) above))
      where
        lt_of_above : (x y : ℕ) → x < y → x * 4 ^ 53 < 4 ^ 53 * y
        lt_of_above x y h = omega arith

-- half the digits of a, rounded up
abbrev pub half : ℕ → ℕ
half a = (size a + 1) / 2

-- so it is for every number of no more than 53 digits with zeros appended
pub scaled : (a m j : ℕ) → 0 < m → m < 2 ^ 53 → a ≡ m * 2 ^ j → Scaled a (half a) (a * 4 ^ 53 / 4 ^ half a)
scaled a m j p few e =
    let z = size a in
    let short : z ≤ 53 + j = size-le a (53 + j) (subst (λ (x : ℕ). x < 2 ^ (53 + j)) (sym e) (shl_lt 53 j few)) in
    let some : 0 < z = size_gt a 0 (subst (λ (x : ℕ). 0 < x) (sym e) (mul-pos p (pow_pos j))) in
    scaled_by a m j z (half a) e short some (size_reaches a (z - 1) (omega arith)) (size-lt a) (omega arith) (omega arith)
