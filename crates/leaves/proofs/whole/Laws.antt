-- What an f32 rounds to, halves away from zero: by the field of its exponent, and the sign. Assumes nothing.
use Rattle.std.proofs.Common.{◌≡◌, ℕ, zero, suc, ◌+◌, ◌-◌, ◌*◌, ◌/◌, ◌%◌, ◌^◌, ◌<◌, ◌≤◌, Bool, true, false, cond, T, eqb, ℤ, pos, negsuc, sym, refl, ap, ◌∙◌, subst, inl, inr, lt_of_lt_of_le, le_of_suc-le-suc, mul_assoc, mul_comm, div-lt_iff_lt-mul, add-mul, mul-le-mul_left, mul-lt-mul_of_pos_right, zero-mul, mul-one, mul_left_comm, add-one, arith, lit<, lit≤, pow_pos, pow_mono, pow-add}
use native.Mathlib.Nat.{mul-lt-mul_of_pos_left, div-eq_of_lt, pow-succ'}
use lib.Ieee.{Float, nan, inf, fin, binary32, up, down, of_bits, to_bits, of_int, neg, fits, round}
use lib.Ieee.Fits.{down_pos, round-fits}
use lib.Ieee.Bits.{to_bits-lt}
use lib.Ieee.Nearest.{div_same}
use lib.Ieee.Exact.{HasValue, round_exact}
use lib.Ieee.Back.{round_whole}
use lib.Ieee.Scale.{round_same}
use Rattle.leaves.specs.Floats.{rounded}
use Rattle.leaves.specs.Steps.{signed}
use Rattle.leaves.proofs.Numbers.{lt_or_ge, one_up}
use Rattle.leaves.proofs.Values.{digits, place, back, back_plain, back_signed, number_of, same_value}
use Rattle.leaves.proofs.Values.{sign_and_rest, no_number, value_of_tail, value_of_digits}
use Rattle.leaves.proofs.Rounding.{neg_round}

-- w is the whole number that the f32 with this pattern rounds to, with either sign
abbrev pub Rounds : ℕ → ℕ → Type 0
Rounds bits w = (s : Bool) → rounded (of_bits binary32 (signed binary32 s bits)) ≡ round binary32 s w 1

-- ---- the whole part of a / c + 1 / 2

abbrev pub half_up : ℕ → ℕ → ℕ
half_up a c = (2 * a + c) / (2 * c)

double_pos : (c : ℕ) → 0 < c → 0 < 2 * c
double_pos c h = omega arith

-- it turns on the fraction alone
half_up_same : (a c b d : ℕ) → 0 < c → 0 < d → a * d ≡ b * c → half_up a c ≡ half_up b d
half_up_same a c b d C D e =
    div_same (2 * a + c) (2 * c) (2 * b + d) (2 * d) (double_pos c C) (double_pos d D)
    (let x : 2 * a * (2 * d) ≡ 4 * (a * d) = rw (mul_assoc, mul_left_comm a 2 d) (omega arith) in
    let y : 2 * b * (2 * c) ≡ 4 * (b * c) = rw (mul_assoc, mul_left_comm b 2 c) (omega arith) in
    let z : c * (2 * d) ≡ d * (2 * c) = simp (mul_comm, mul_left_comm) in
    rw (add-mul (2 * a) c (2 * d), add-mul (2 * b) d (2 * c)) (omega arith))

pub rounded_of_value : (x : Float) (s : Bool) (a c : ℕ) → 0 < c → HasValue x s a c → rounded x ≡ round binary32 s (half_up a c) 1
unfolding rounded
rounded_of_value nan s a c h v = absurd v
rounded_of_value (inf t) s a c h v = absurd v
rounded_of_value (fin t m e) s a c h v =
    ap (λ (z : Bool). round binary32 z (half_up (m * up e) (down e)) 1) v.0
    ∙ ap (λ (w : ℕ). round binary32 s w 1) (half_up_same (m * up e) (down e) a c (down_pos e) h v.1)

-- ---- the whole number is one that an f32 holds: the rounding in the definition of `rounded` changes nothing

below_one_more : (m d : ℕ) → m < 2 ^ 24 → 0 < d → half_up m d ≤ 2 ^ 24
below_one_more m d few some =
    le_of_suc-le-suc
    ((div-lt_iff_lt-mul (double_pos d some)).1
    (let most : 2 ^ 25 ≤ 2 ^ 25 * d = subst (λ (z : ℕ). z ≤ 2 ^ 25 * d) (mul-one (2 ^ 25)) (mul-le-mul_left (2 ^ 25) some) in
    let product : suc (2 ^ 24) * (2 * d) ≡ 2 ^ 25 * d + 2 * d = omega arith in
    omega arith))

pub rounded_whole : (s : Bool) (m : ℕ) (e : ℤ) → T (fits binary32 (fin s m e)) → HasValue (rounded (fin s m e)) s (half_up (m * up e) (down e)) 1
unfolding rounded
rounded_whole s zero e holds =
    let none : half_up (0 * up e) (down e) ≤ 2 ^ 24 =
    subst (λ (z : ℕ). half_up z (down e) ≤ 2 ^ 24) (sym (zero-mul (up e))) (below_one_more 0 (down e) (lit< tt) (down_pos e)) in
    round_whole binary32 s (half_up (0 * up e) (down e)) none
rounded_whole s (suc m) (pos k) holds =
    let number = number_of binary32 s m (pos k) holds in
    let w = suc m * 2 ^ k in
    let same : half_up w 1 ≡ w = omega arith in
    let units : w * 2 ^ 149 ≡ suc m * 2 ^ (k + 149) =
    mul_assoc (suc m) (2 ^ k) (2 ^ 149) ∙ ap (λ (z : ℕ). suc m * z) (sym (pow-add 2 k 149)) in
    let below : suc m * 2 ^ (k + 149) < 2 ^ 277 =
    subst (λ (z : ℕ). z < 2 ^ 277) units (mul-lt-mul_of_pos_right {n = 2 ^ 128} number.finite (pow_pos 149)) in
    subst (λ (z : ℕ). HasValue (round binary32 s z 1) s z 1) (sym same)
    (round_exact binary32 s w 1 (suc m) (k + 149) (lit< tt) number.few below (units ∙ sym (mul-one (suc m * 2 ^ (k + 149)))))
rounded_whole s (suc m) (negsuc k) holds =
    let number = number_of binary32 s m (negsuc k) holds in
    let most : half_up (suc m * 1) (2 ^ suc k) ≤ 2 ^ 24 =
    subst (λ (z : ℕ). half_up z (2 ^ suc k) ≤ 2 ^ 24) (sym (mul-one (suc m))) (below_one_more (suc m) (2 ^ suc k) number.few (pow_pos (suc k))) in
    round_whole binary32 s (half_up (suc m * 1) (2 ^ suc k)) most

-- rounded to whole, a number is a whole one with the same sign
pub rounded_value : (x : Float) (s : Bool) (a c : ℕ) → T (fits binary32 x) → HasValue x s a c → (k : ℕ) × HasValue (rounded x) s k 1
rounded_value nan s a c holds v = absurd v
rounded_value (inf t) s a c holds v = absurd v
rounded_value (fin t m e) s a c holds v =
    (half_up (m * up e) (down e), rw (← v.0) (rounded_whole t m e holds))

-- ---- below 2 ^ 23

finite : (s : Bool) (bits : ℕ) → 2 ^ 23 ≤ bits → bits < 0x7f800000
    → rounded (of_bits binary32 (signed binary32 s bits)) ≡ round binary32 s (half_up (digits binary32 bits * 2 ^ place binary32 bits) (2 ^ 149)) 1
finite s bits h k = rounded_of_value _ s _ _ (pow_pos 149) (value_of_digits binary32 s bits h k)

-- less than 1 / 2 has no whole part with the half added
small : (a c : ℕ) → 2 * a < c → half_up a c ≡ 0
small a c h = div-eq_of_lt (omega arith)

tiny : (q j : ℕ) → q < 2 ^ 24 → j ≤ 124 → 2 * (q * 2 ^ j) < 2 ^ 149
tiny q j h k =
    let less : q * 2 ^ j < 2 ^ 24 * 2 ^ 124 =
    lt_of_lt_of_le (mul-lt-mul_of_pos_right h (pow_pos j)) (mul-le-mul_left (2 ^ 24) (pow_mono {j = 124} k)) in
    mul-lt-mul_of_pos_left {n = 2 ^ 148} less (lit< tt)

pub at_small : (bits : ℕ) → bits / 2 ^ 23 < 126 → Rounds bits 0
at_small bits h s = elim (lt_or_ge bits (2 ^ 23)) [
  | inl l ↦
      rounded_of_value _ s _ _ (pow_pos 149) (value_of_tail binary32 s bits l)
      ∙ ap (λ (w : ℕ). round binary32 s w 1) (small bits (2 ^ 149) (lt_of_lt_of_le {m = 2 ^ 24} (omega arith) (lit≤ tt)))
  | inr g ↦
      finite s bits g (omega arith)
      ∙ ap (λ (w : ℕ). round binary32 s w 1)
      (small (digits binary32 bits * 2 ^ place binary32 bits) (2 ^ 149) (tiny (digits binary32 bits) (place binary32 bits) (omega arith) (omega arith)))
]

-- d digits stand after the point: the number is digits / 2 ^ d
pub at_digits : (bits d : ℕ) → 126 ≤ bits / 2 ^ 23 → bits / 2 ^ 23 + d ≡ 150 → Rounds bits ((2 * digits binary32 bits + 2 ^ d) / 2 ^ (d + 1))
at_digits bits d h e s =
    let places : place binary32 bits + d ≡ 149 = omega arith in
    let power : 2 ^ place binary32 bits * 2 ^ d ≡ 2 ^ 149 = sym (pow-add 2 (place binary32 bits) d) ∙ ap (λ (z : ℕ). 2 ^ z) places in
    finite s bits (omega arith) (omega arith)
    ∙ ap (λ (w : ℕ). round binary32 s w 1)
    (half_up_same (digits binary32 bits * 2 ^ place binary32 bits) (2 ^ 149) (digits binary32 bits) (2 ^ d) (pow_pos 149) (pow_pos d)
    (mul_assoc (digits binary32 bits) (2 ^ place binary32 bits) (2 ^ d) ∙ ap (λ (z : ℕ). digits binary32 bits * z) power)
    ∙ ap (λ (z : ℕ). (2 * digits binary32 bits + 2 ^ d) / z) (sym (ap (λ (z : ℕ). 2 ^ z) (add-one d) ∙ pow-succ' 2 d)))

-- the same with 2 ^ d as the code makes it, by a shift
pub at_shifted : (bits : ℕ) → 126 ≤ bits / 2 ^ 23 → bits / 2 ^ 23 < 150
    → Rounds bits ((2 * digits binary32 bits + (1 * 2 ^ (150 - bits / 2 ^ 23)) % 2 ^ 32) / 2 ^ (150 - bits / 2 ^ 23 + 1))
at_shifted bits h k s =
    let d = 150 - bits / 2 ^ 23 in
    rw (one_up d 32 (omega arith)) (at_digits bits d h (omega arith) s)

-- ---- from 2 ^ 23 on

-- a whole number with a half added has itself as its whole part
pub whole_stays : (w c : ℕ) → 0 < c → half_up (w * c) c ≡ w
whole_stays w c h = half_up_same (w * c) c w 1 h (omega arith) (mul-one (w * c)) ∙ (let odd : (2 * w + 1) / 2 ≡ w = omega arith in odd)

-- q * 2 ^ j / 2 ^ 149 is whole from j = 149 on, and rounds to itself
whole_number : (s : Bool) (x : Float) (q j : ℕ) → T (fits binary32 x) → HasValue x s (q * 2 ^ j) (2 ^ 149)
    → q < 2 ^ 24 → 149 ≤ j → j < 254 → rounded x ≡ x
whole_number s x q j holds v h k l =
    let w = q * 2 ^ (j - 149) in
    let places : j - 149 + 149 ≡ j = omega arith in
    let power : 2 ^ (j - 149) * 2 ^ 149 ≡ 2 ^ j = sym (pow-add 2 (j - 149) 149) ∙ ap (λ (z : ℕ). 2 ^ z) places in
    let split : w * 2 ^ 149 ≡ q * 2 ^ j = mul_assoc q (2 ^ (j - 149)) (2 ^ 149) ∙ ap (λ (z : ℕ). q * z) power in
    let below : q * 2 ^ j < 2 ^ 277 =
    lt_of_lt_of_le (mul-lt-mul_of_pos_right h (pow_pos j)) (mul-le-mul_left (2 ^ 24) (pow_mono {j = 253} (omega arith))) in
    rounded_of_value x s (q * 2 ^ j) (2 ^ 149) (pow_pos 149) v
    ∙ ap (λ (a : ℕ). round binary32 s (half_up a (2 ^ 149)) 1) (sym split)
    ∙ ap (λ (z : ℕ). round binary32 s z 1) (whole_stays w (2 ^ 149) (pow_pos 149))
    ∙ round_same binary32 s w 1 (q * 2 ^ j) (2 ^ 149) (omega arith) (pow_pos 149) (split ∙ sym (mul-one (q * 2 ^ j)))
    ∙ same_value binary32 s (q * 2 ^ j) (2 ^ 149) (round binary32 s (q * 2 ^ j) (2 ^ 149)) x (pow_pos 149)
    (round-fits binary32 s (q * 2 ^ j) (2 ^ 149)) holds
    (round_exact binary32 s (q * 2 ^ j) (2 ^ 149) q j (pow_pos 149) h below refl) v

-- an infinity and a NaN stay
no_fraction : (b s : Bool) (x : Float) → x ≡ cond b (inf s) nan → rounded x ≡ x
unfolding rounded
no_fraction true s x e = rw e refl
no_fraction false s x e = rw e refl

-- The sign, and what stands below it, of an f32 from 2 ^ 23 on: an infinity, a NaN, or a whole number.
pub at_large : (x : Float) (word : ℕ) → T (fits binary32 x) → word ≡ to_bits binary32 x → 0x4b000000 ≤ word % 2 ^ 31 → x ≡ rounded x
at_large x word holds of_x least =
    let p = word % 2 ^ 31 in
    let split = sign_and_rest binary32 word (subst (λ (b : ℕ). b < 2 ^ 32) (sym of_x) (to_bits-lt binary32 x holds)) in
    let s = split.0 in
    let is : of_bits binary32 (signed binary32 s p) ≡ x = ap (of_bits binary32) (sym split.1) ∙ back binary32 x word holds of_x in
    sym (elim (lt_or_ge p 0x7f800000) [
      | inl l ↦
          whole_number s x (digits binary32 p) (place binary32 p) holds
          (subst (λ (y : Float). HasValue y s (digits binary32 p * 2 ^ place binary32 p) (2 ^ 149)) is (value_of_digits binary32 s p (omega arith) l))
          (omega arith) (omega arith) (omega arith)
      | inr g ↦ no_fraction (eqb (p % 2 ^ 23) 0) s x (sym is ∙ no_number binary32 s p g (omega arith))
    ])

-- ---- the sign goes over

module _ (x : Float) (holds : T (fits binary32 x)) (word : ℕ) (of_x : word ≡ to_bits binary32 x) (w : ℕ) (y : Float) where
  pub with_no_sign : Rounds word w → y ≡ of_int binary32 (pos w) → y ≡ rounded x
  unfolding of_int
  with_no_sign r is = is ∙ sym (r false) ∙ ap rounded (back_plain binary32 x word holds of_x)

  pub with_sign : 2 ^ 31 ≤ word → Rounds (word - 2 ^ 31) w → y ≡ of_int binary32 (pos w) → neg y ≡ rounded x
  unfolding of_int
  with_sign h r is = ap neg is ∙ neg_round binary32 w 1 ∙ sym (r true) ∙ ap rounded (back_signed binary32 x word holds of_x h)
