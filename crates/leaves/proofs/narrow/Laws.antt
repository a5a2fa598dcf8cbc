-- What an f64 without its sign narrows to, by the field of its exponent: a law for each line of the table above
-- `narrow_pattern`. Assumes nothing.
use Rattle.std.proofs.Common.{◌≡◌, ℕ, ◌+◌, ◌-◌, ◌*◌, ◌/◌, ◌%◌, ◌^◌, ◌<◌, ◌≤◌, Bool, true, false, T, sym, refl, ap, ◌∙◌, inl, inr, lt_of_lt_of_le, mul-le-mul, eq-or-lt_of_le, zero-add, mul-one, arith, pow_pos, pow_mono, shr_lt, ne_eqb}
use native.Mathlib.Nat.{mod-le, div-eq_of_lt}
use lib.Ieee.{Float, nan, inf, fin, binary32, binary64, up, down, of_bits, to_bits, fits, round, units}
use lib.Ieee.Fits.{down_pos}
use lib.Ieee.Nearest.{closest}
use lib.Ieee.Exact.{HasValue}
use lib.Ieee.Scale.{round_same}
use Rattle.leaves.specs.Floats.{narrowed}
use Rattle.leaves.specs.Steps.{signed}
use Rattle.leaves.proofs.Numbers.{lt_or_ge}
use Rattle.leaves.proofs.Values.{digits, place, back_plain, back_signed, no_number, value_of_tail}
use Rattle.leaves.proofs.Values.{value_of_digits}
use Rattle.leaves.proofs.Rounding.{round_digits, round_pattern, units_over, closest_down, closest_least}
use Rattle.leaves.proofs.Rounding.{closest_most}

-- r is the f32 pattern that bits narrow to, with either sign
abbrev pub Narrows : ℕ → ℕ → Type 0
Narrows bits r = (r < 2 ^ 31) × ((s : Bool) → of_bits binary32 (signed binary32 s r) ≡ narrowed (of_bits binary64 (signed binary64 s bits)))

-- narrowing is one rounding of the number
pub narrowed_of_value : (x : Float) (s : Bool) (a c : ℕ) → 0 < c → HasValue x s a c → narrowed x ≡ round binary32 s a c
unfolding narrowed
narrowed_of_value nan s a c h v = absurd v
narrowed_of_value (inf t) s a c h v = absurd v
narrowed_of_value (fin t m e) s a c h v =
    ap (λ (z : Bool). round binary32 z (m * up e) (down e)) v.0 ∙ round_same binary32 s (m * up e) (down e) a c (down_pos e) h v.1

-- ---- a NaN and the infinity

nan_pattern : (s : Bool) → of_bits binary32 (signed binary32 s 0x7fc00000) ≡ narrowed nan
unfolding of_bits narrowed
nan_pattern true = refl
nan_pattern false = refl

is_nan : (s : Bool) (bits : ℕ) → bits < 2 ^ 63 → 0x7ff0000000000000 < bits → of_bits binary64 (signed binary64 s bits) ≡ nan
is_nan s bits top above =
    let tail = ne_eqb (bits % 2 ^ 52) 0 (λ (e : bits % 2 ^ 52 ≡ 0). omega arith) in
    no_number binary64 s bits (omega arith) top ∙ rw tail refl

pub at_nan : (bits : ℕ) → bits < 2 ^ 63 → 0x7ff0000000000000 < bits → Narrows bits 0x7fc00000
at_nan bits top above = (omega arith, λ s. nan_pattern s ∙ sym (ap narrowed (is_nan s bits top above)))

inf_pattern : (s : Bool) → of_bits binary32 (signed binary32 s 0x7f800000) ≡ inf s
unfolding of_bits
inf_pattern true = refl
inf_pattern false = refl

inf_narrowed : (s : Bool) → narrowed (of_bits binary64 (signed binary64 s 0x7ff0000000000000)) ≡ inf s
unfolding of_bits narrowed
inf_narrowed true = refl
inf_narrowed false = refl

-- ---- a finite number with a leading digit

finite : (s : Bool) (bits : ℕ) → 2 ^ 52 ≤ bits → bits < 0x7ff0000000000000
    → narrowed (of_bits binary64 (signed binary64 s bits)) ≡ round binary32 s (digits binary64 bits * 2 ^ place binary64 bits) (2 ^ 1074)
finite s bits h k = narrowed_of_value _ s _ _ (pow_pos 1074) (value_of_digits binary64 s bits h k)

-- Of the 53 digits a normal f32 keeps 24, or the next number up.
module _ (q : ℕ) (least : 2 ^ 52 ≤ q) (most : q < 2 ^ 53) where
  kept_least : 2 ^ 23 ≤ closest q (2 ^ 29)
  kept_least = omega (arith, closest_least q (2 ^ 29))

  kept_most : closest q (2 ^ 29) ≤ 2 ^ 24
  kept_most = omega (arith, closest_most q (2 ^ 29))

-- how many places the kept digits of a normal f32 stand up
abbrev up_by : ℕ → ℕ
up_by bits = bits / 2 ^ 52 - 897

normal_units : (s : Bool) (bits : ℕ) → 897 ≤ bits / 2 ^ 52
    → round binary32 s (digits binary64 bits * 2 ^ place binary64 bits) (2 ^ 1074) ≡ units binary32 s (closest (digits binary64 bits) (2 ^ 29)) (up_by bits)
normal_units s bits h =
    round_digits binary32 s (digits binary64 bits) (place binary64 bits) 1074 29 (up_by bits) (omega arith) (omega arith) (inr (omega arith))

pub at_normal : (bits w : ℕ) → 897 ≤ bits / 2 ^ 52 → bits / 2 ^ 52 < 1151 → w ≡ closest (digits binary64 bits) (2 ^ 29)
    → Narrows bits (up_by bits * 2 ^ 23 + w)
at_normal bits w least most e =
    let low : 2 ^ 23 ≤ w = rw e (kept_least (digits binary64 bits) (omega arith) (omega arith)) in
    let high : w ≤ 2 ^ 24 = rw e (kept_most (digits binary64 bits) (omega arith) (omega arith)) in (
      omega arith,
      λ s.
          round_pattern binary32 s (digits binary64 bits * 2 ^ place binary64 bits) (2 ^ 1074) (up_by bits) w (rw e (normal_units s bits least))
          (inr low) high (omega arith)
          ∙ sym (finite s bits (omega arith) (omega arith)),
    )

-- from 2 ^ 128 on: the digits stand so far up that the number is beyond the largest f32
overflow : (s : Bool) (bits : ℕ) → 1151 ≤ bits / 2 ^ 52 → bits < 0x7ff0000000000000
    → narrowed (of_bits binary64 (signed binary64 s bits)) ≡ inf s
overflow s bits least h =
    finite s bits (omega arith) h
    ∙ normal_units s bits (omega arith)
    ∙ units_over binary32 s (closest (digits binary64 bits) (2 ^ 29)) (up_by bits)
    (mul-le-mul {n₁ = 2 ^ 23} {m₁ = 2 ^ 254} (kept_least (digits binary64 bits) (omega arith) (omega arith)) (pow_mono {i = 254} (omega arith)))

pub at_infinity : (bits : ℕ) → bits ≤ 0x7ff0000000000000 → 1151 ≤ bits / 2 ^ 52 → Narrows bits 0x7f800000
at_infinity bits most least = (
  omega arith,
  λ s. inf_pattern s ∙ sym (elim (eq-or-lt_of_le most) [
    | inl e ↦ ap (λ (b : ℕ). narrowed (of_bits binary64 (signed binary64 s b))) e ∙ inf_narrowed s
    | inr h ↦ overflow s bits least h
  ]),
)

-- ---- a subnormal f32, and zero

-- q * 2 ^ j / 2 ^ 1074 below the normal range: q less the digits that stand below the least f32
few_units : (s : Bool) (q j d : ℕ) → j + d ≡ 925 → 29 ≤ d → q < 2 ^ 53
    → round binary32 s (q * 2 ^ j) (2 ^ 1074) ≡ units binary32 s (closest q (2 ^ d)) 0
few_units s q j d e h small =
    round_digits binary32 s q j 1074 d 0 (omega arith) (lt_of_lt_of_le small (pow_mono {i = 53} (omega arith))) (inl refl)

few_pattern : (s : Bool) (q j d w : ℕ) → j + d ≡ 925 → 29 ≤ d → q < 2 ^ 53 → w ≡ closest q (2 ^ d) → w ≤ 2 ^ 24
    → of_bits binary32 (signed binary32 s w) ≡ round binary32 s (q * 2 ^ j) (2 ^ 1074)
few_pattern s q j d w e h small is most =
    let sum : 0 * 2 ^ 23 + w ≡ w = omega arith in
    ap (λ (p : ℕ). of_bits binary32 (signed binary32 s p)) (sym sum)
    ∙ round_pattern binary32 s (q * 2 ^ j) (2 ^ 1074) 0 w (rw is (few_units s q j d e h small)) (inl refl) most (omega arith)

pub at_subnormal : (bits w : ℕ) → 873 ≤ bits / 2 ^ 52 → bits / 2 ^ 52 < 897
    → w ≡ closest (digits binary64 bits) (2 ^ (926 - bits / 2 ^ 52)) → Narrows bits w
at_subnormal bits w least most e =
    let d = 926 - bits / 2 ^ 52 in
    let whole : digits binary64 bits / 2 ^ d < 2 ^ 24 = shr_lt 24 d (lt_of_lt_of_le {m = 2 ^ 53} (omega arith) (pow_mono {i = 53} (omega arith))) in
    let high : w ≤ 2 ^ 24 = rw e (omega (arith, closest_most (digits binary64 bits) (2 ^ d))) in (
      omega arith,
      λ s.
          few_pattern s (digits binary64 bits) (place binary64 bits) d w (omega arith) (omega arith) (omega arith) e high
          ∙ sym (finite s bits (omega arith) (omega arith)),
    )

-- less than half of the least f32, or just half of it, is nearest to nothing
nothing : (q d : ℕ) → q < 2 ^ 53 → 54 ≤ d → 0 ≡ closest q (2 ^ d)
nothing q d small h =
    let most : 2 ^ 54 ≤ 2 ^ d = pow_mono {i = 54} h in
    let rest : q % 2 ^ d ≤ q = mod-le q (2 ^ d) in
    sym (closest_down q (2 ^ d) (omega arith) ∙ div-eq_of_lt (omega arith))

tiny : (s : Bool) (q j : ℕ) → q < 2 ^ 53 → j ≤ 871 → of_bits binary32 (signed binary32 s 0) ≡ round binary32 s (q * 2 ^ j) (2 ^ 1074)
tiny s q j small h = few_pattern s q j (925 - j) 0 (omega arith) (omega arith) small (nothing q (925 - j) small (omega arith)) (omega arith)

pub at_zero : (bits : ℕ) → bits / 2 ^ 52 < 873 → Narrows bits 0
at_zero bits most = (
  omega arith,
  λ s. elim (lt_or_ge bits (2 ^ 52)) [
    | inl h ↦
        tiny s bits 0 (omega arith) (omega arith)
        ∙ ap (λ (a : ℕ). round binary32 s a (2 ^ 1074)) (mul-one bits)
        ∙ sym (narrowed_of_value _ s _ _ (pow_pos 1074) (value_of_tail binary64 s bits h))
    | inr h ↦ tiny s (digits binary64 bits) (place binary64 bits) (omega arith) (omega arith) ∙ sym (finite s bits h (omega arith))
  ],
)

-- ---- the sign goes over

module _ (x : Float) (holds : T (fits binary64 x)) (bits : ℕ) (of_x : bits ≡ to_bits binary64 x) (r : ℕ) (y : Float) where
  pub with_no_sign : Narrows bits r → y ≡ of_bits binary32 r → y ≡ narrowed x
  with_no_sign n is =
      is ∙ ap (of_bits binary32) (sym (zero-add r)) ∙ n.1 false ∙ ap narrowed (back_plain binary64 x bits holds of_x)

  pub with_sign : 2 ^ 63 ≤ bits → Narrows (bits - 2 ^ 63) r → y ≡ of_bits binary32 (2 ^ 31 + r) → y ≡ narrowed x
  with_sign h n is = is ∙ n.1 true ∙ ap narrowed (back_signed binary64 x bits holds of_x h)
