-- The way from a double to the form that `nearest_root` takes, and back: its 53 digits and their scale, the pattern of
-- the root, and the doubles that have no such root. Assumes nothing.
use Rattle.std.proofs.Common.{◌≡◌, ℕ, zero, suc, ◌+◌, ◌-◌, ◌*◌, ◌/◌, ◌%◌, ◌^◌, ◌<◌, ◌≤◌, Bool, true, false, cond, T, eqb, ℤ, pos, sym, refl, ap, ◌∙◌, subst, inl, inr, true≢false, le_trans, lt_of_lt_of_le, mul-le-mul_right, mod-eq_of_lt, mul_assoc, mul_comm, pos_of_ne-zero, mul-le-mul_left, lt_of_not-le, zero-add, mul-one, not-le_of_lt, arith, pow_pos, pow_mono, pow-add, shl_lt}
use mathlib.Core.Bool.{false≢true}
use lib.Count.{count_leading_zeros, leading_top}
use lib.Ieee.{Float, nan, inf, fin, binary64, lt, eq, ne, of_bits, to_bits, fits}
use lib.Ieee.Bits.{to_bits-lt}
use lib.Ieee.Exact.{HasValue}
use Rattle.leaves.specs.Root.{Nearest, NearestRoot, SquareRoot, Rooted, root}
use Rattle.leaves.specs.Steps.{signed, most_scale}
use Rattle.leaves.proofs.Numbers.{lt_or_ge}
use Rattle.leaves.proofs.Values.{digits, place, back, rescaled, sign_and_rest, no_number, value_of_tail}
use Rattle.leaves.proofs.Values.{value_of_digits}
use Rattle.leaves.proofs.Values.{value_of_sum}
use Rattle.leaves.proofs.words.Laws.{nan_test, one_nan}
use Rattle.leaves.proofs.order.Laws.{plain_zero, zero_level, zero_not_below, number_not_level, negative_below}
use Rattle.leaves.proofs.order.Laws.{positive_not_below, both}
use Rattle.leaves.proofs.root.Squares.{nearest_least, nearest_most}
use Rattle.leaves.proofs.root.Scales.{four}
use Rattle.leaves.proofs.root.Agree.{meets, agree}

-- ---- from 53 digits and a scale to the root

-- the digits, doubled where the scale is odd
abbrev pub even : ℕ → ℕ → ℕ
even digits scale = digits * (1 + scale % 2)

pub even_least : (digits scale : ℕ) → 2 ^ 52 ≤ digits → 2 ^ 52 ≤ even digits scale
even_least digits scale h = le_trans h (subst (λ (z : ℕ). z ≤ even digits scale) (mul-one digits) (mul-le-mul_left {m = 1} digits (omega arith)))

pub even_most : (digits scale : ℕ) → digits < 2 ^ 53 → even digits scale < 2 ^ 54
even_most digits scale h =
    let most : even digits scale ≤ digits * 2 = mul-le-mul_left digits (omega arith) in
    omega arith

-- 2 ^ k is a power of 4, doubled where k is odd
parity : (k : ℕ) → 2 ^ k ≡ (1 + k % 2) * 4 ^ (k / 2)
parity k =
    let halves : k ≡ k % 2 + (k / 2 + k / 2) = omega arith in
    ap (λ (z : ℕ). 2 ^ z) halves
    ∙ pow-add 2 (k % 2) (k / 2 + k / 2)
    ∙ ap (λ (z : ℕ). 2 ^ (k % 2) * z) (sym (four (k / 2)))
    ∙ ap (λ (z : ℕ). z * 4 ^ (k / 2)) (bit (k % 2) (omega arith))
  where
    bit : (b : ℕ) → b < 2 → 2 ^ b ≡ 1 + b
    bit zero h = refl
    bit (suc zero) h = refl
    bit (suc (suc b)) h = absurd (omega arith)

regroup : (d b p s t : ℕ) → d * (b * p) * (s * t) ≡ d * b * s * p * t
regroup d b p s t = simp (mul_assoc, mul_comm)

module _
    (digits scale : ℕ)
    (least : 2 ^ 52 ≤ digits)
    (most : digits < 2 ^ 53)
    (within : scale ≤ most_scale)
    (q : ℕ)
    (near : Nearest (even digits scale * 2 ^ 52) q)
  where
    n_least : 4 ^ 52 ≤ even digits scale * 2 ^ 52
    n_least = omega (arith, even_least digits scale least)

    n_most : even digits scale * 2 ^ 52 < 4 ^ 53
    n_most = omega (arith, even_most digits scale most)

    q_least : 2 ^ 52 ≤ q
    q_least = nearest_least (even digits scale * 2 ^ 52) q n_least near

    pub q_most : q ≤ 2 ^ 53
    q_most = nearest_most (even digits scale * 2 ^ 52) q n_most near

    -- x is n * 4 ^ u / 4 ^ 589, for n the even digits with 52 zeros appended and u half of the scale
    of_double : (x : Float) → HasValue x false (digits * 2 ^ scale) (2 ^ 1126)
        → HasValue x false (even digits scale * 2 ^ 52 * 4 ^ (scale / 2)) (4 ^ 589)
    of_double x v =
        rescaled x false (digits * 2 ^ scale) (2 ^ 1126) (even digits scale * 2 ^ 52 * 4 ^ (scale / 2)) (4 ^ 589) (pow_pos 1126)
        (ap (λ (z : ℕ). digits * z * 4 ^ 589) (parity scale) ∙ regroup digits (1 + scale % 2) (4 ^ (scale / 2)) (2 ^ 52) (2 ^ 1126)) v

    -- the pattern that is put together has the value q * 2 ^ u / 2 ^ 589
    of_root : HasValue (of_bits binary64 ((scale / 2 + 485) * 2 ^ 52 + q)) false (q * 2 ^ (scale / 2)) (2 ^ 589)
    of_root =
        let k = scale / 2 + 485 in
        let sum = k * 2 ^ 52 + q in
        let value : HasValue (of_bits binary64 sum) false (q * 2 ^ k) (2 ^ 1074) =
        subst (λ (b : ℕ). HasValue (of_bits binary64 b) false (q * 2 ^ k) (2 ^ 1074)) (zero-add sum)
        (value_of_sum binary64 false k q (inr q_least) q_most (omega (arith, q_most))) in
        rescaled (of_bits binary64 sum) false (q * 2 ^ k) (2 ^ 1074) (q * 2 ^ (scale / 2)) (2 ^ 589) (pow_pos 1074)
        (ap (λ (z : ℕ). q * z * 2 ^ 589) (pow-add 2 (scale / 2) 485) ∙ regrouped q (2 ^ (scale / 2)) (2 ^ 485) (2 ^ 589)) value
      where
        regrouped : (a b c d : ℕ) → a * (b * c) * d ≡ a * b * (c * d)
        regrouped a b c d = simp mul_assoc

    pub scaled_root_is : (r : Float) → r ≡ of_bits binary64 ((scale / 2 + 485) * 2 ^ 52 + q)
        → (x : Float) → HasValue x false (digits * 2 ^ scale) (2 ^ 1126) → NearestRoot x r
    scaled_root_is r is x v = record {
      n = even digits scale * 2 ^ 52;
      q = q;
      u = scale / 2;
      v = 589;
      of_x = of_double x v;
      of_r = subst (λ (y : Float). HasValue y false (q * 2 ^ (scale / 2)) (2 ^ 589)) (sym is) of_root;
      digits = (n_least, n_most);
      nearest = near;
    }

-- ---- from a pattern to 53 digits and a scale

-- with a leading digit in the pattern
pub normal_value : (bits : ℕ) → 2 ^ 52 ≤ bits → bits < 0x7ff0000000000000
    → HasValue (of_bits binary64 bits) false (digits binary64 bits * 2 ^ (bits / 2 ^ 52 + 51)) (2 ^ 1126)
normal_value bits least most =
    let d = digits binary64 bits in
    let j = place binary64 bits in
    let value : HasValue (of_bits binary64 bits) false (d * 2 ^ j) (2 ^ 1074) =
    subst (λ (b : ℕ). HasValue (of_bits binary64 b) false (d * 2 ^ j) (2 ^ 1074)) (zero-add bits)
    (value_of_digits binary64 false bits least most) in
    let places : bits / 2 ^ 52 + 51 ≡ j + 52 = omega arith in
    rescaled (of_bits binary64 bits) false (d * 2 ^ j) (2 ^ 1074) (d * 2 ^ (bits / 2 ^ 52 + 51)) (2 ^ 1126) (pow_pos 1074)
    (moved d (2 ^ j) (2 ^ 52) (2 ^ 1074) ∙ ap (λ (z : ℕ). d * z * 2 ^ 1074) (sym (ap (λ (z : ℕ). 2 ^ z) places ∙ pow-add 2 j 52))) value
  where
    moved : (d p s t : ℕ) → d * p * (s * t) ≡ d * (p * s) * t
    moved d p s t = simp mul_assoc

-- Of a subnormal double's digits a, below 2 ^ 52, 64 less the leading zeros are there: moved up by 11 fewer places than
-- those zeros they are 53.
pub record Raised (a : ℕ) : Type 0 where
  pub eleven : 11 ≤ count_leading_zeros 64 a
  pub few : count_leading_zeros 64 a - 11 ≤ 52
  pub least : 2 ^ 52 ≤ (a * 2 ^ (count_leading_zeros 64 a - 11)) % 2 ^ 64
  pub most : (a * 2 ^ (count_leading_zeros 64 a - 11)) % 2 ^ 64 < 2 ^ 53
  pub whole : (a * 2 ^ (count_leading_zeros 64 a - 11)) % 2 ^ 64 ≡ a * 2 ^ (count_leading_zeros 64 a - 11)

pub raised : (a : ℕ) → 0 < a → a < 2 ^ 52 → Raised a
raised a some small =
    let top = leading_top 64 a some (omega arith) in
    let j = top.0 in
    let shift = count_leading_zeros 64 a - 11 in
    let place : j < 52 = lt_of_not-le (λ (g : 52 ≤ j). not-le_of_lt small (le_trans (pow_mono g) top.2)) in
    let sum : j + shift ≡ 52 = omega (arith, top.1) in
    let power : 2 ^ j * 2 ^ shift ≡ 2 ^ 52 = sym (pow-add 2 j shift) ∙ ap (λ (z : ℕ). 2 ^ z) sum in
    let least : 2 ^ 52 ≤ a * 2 ^ shift = subst (λ (z : ℕ). z ≤ a * 2 ^ shift) power (mul-le-mul_right (2 ^ shift) top.2) in
    let next : suc j + shift ≡ 53 = omega arith in
    let most : a * 2 ^ shift < 2 ^ 53 = subst (λ (z : ℕ). a * 2 ^ shift < 2 ^ z) next (shl_lt (suc j) shift top.3) in
    let whole : (a * 2 ^ shift) % 2 ^ 64 ≡ a * 2 ^ shift = mod-eq_of_lt (lt_of_lt_of_le most (omega arith)) in
    record {
      eleven = omega (arith, top.1);
      few = omega (arith, top.1);
      least = rw whole least;
      most = rw whole most;
      whole = whole;
    }

pub subnormal_value : (bits : ℕ) → bits / 2 ^ 52 ≡ 0 → (r : Raised (bits % 2 ^ 52))
    → HasValue (of_bits binary64 bits) false
    ((bits % 2 ^ 52 * 2 ^ (count_leading_zeros 64 (bits % 2 ^ 52) - 11)) % 2 ^ 64 * 2 ^ (52 - (count_leading_zeros 64 (bits % 2 ^ 52) - 11)))
    (2 ^ 1126)
subnormal_value bits none r =
    let a = bits % 2 ^ 52 in
    let shift = count_leading_zeros 64 a - 11 in
    let all : 0 + a ≡ bits = omega arith in
    let value : HasValue (of_bits binary64 bits) false a (2 ^ 1074) =
    subst (λ (b : ℕ). HasValue (of_bits binary64 b) false a (2 ^ 1074)) all (value_of_tail binary64 false a (omega arith)) in
    let places : shift + (52 - shift) ≡ 52 = omega (arith, r.few) in
    let power : 2 ^ shift * 2 ^ (52 - shift) ≡ 2 ^ 52 = sym (pow-add 2 shift (52 - shift)) ∙ ap (λ (z : ℕ). 2 ^ z) places in
    let raised_is : (a * 2 ^ shift) % 2 ^ 64 * 2 ^ (52 - shift) ≡ a * 2 ^ 52 =
    ap (λ (z : ℕ). z * 2 ^ (52 - shift)) r.whole ∙ mul_assoc a (2 ^ shift) (2 ^ (52 - shift)) ∙ ap (λ (z : ℕ). a * z) power in
    rescaled (of_bits binary64 bits) false a (2 ^ 1074) ((a * 2 ^ shift) % 2 ^ 64 * 2 ^ (52 - shift)) (2 ^ 1126) (pow_pos 1074)
    (sym (mul_assoc a (2 ^ 52) (2 ^ 1074)) ∙ ap (λ (z : ℕ). z * 2 ^ 1074) (sym raised_is)) value

-- ---- the doubles that have no such root, and the rest

-- what the rule gives has the meaning
pub by_rule : (x r : Float) → T (fits binary64 x) → r ≡ root x → Rooted x r
by_rule x r holds e = record { rule = e; meaning = subst (SquareRoot x) (sym e) (meets x holds) }

pub of_nan : (x : Float) → ne x x ≡ true → nan ≡ root x
unfolding root
of_nan x h = sym (ap root (one_nan x (nan_test x ∙ h)))

-- below zero
pub of_negative : (x : Float) → lt x plain_zero ≡ true → nan ≡ root x
unfolding lt root
of_negative nan h = refl
of_negative (inf true) h = refl
of_negative (inf false) h = absurd (false≢true h)
of_negative (fin true zero e) h = both h (zero_not_below true e)
of_negative (fin true (suc m) e) h = refl
of_negative (fin false zero e) h = both h (zero_not_below false e)
of_negative (fin false (suc m) e) h = both h (positive_not_below m e)

-- equal to zero
pub of_zero : (x : Float) → eq x plain_zero ≡ true → x ≡ root x
unfolding eq root
of_zero nan h = refl
of_zero (inf s) h = absurd (false≢true h)
of_zero (fin s zero e) h = refl
of_zero (fin s (suc m) e) h = both h (number_not_level s m e)

-- plus infinity, by its pattern
pub of_infinity : (x : Float) → T (fits binary64 x) → to_bits binary64 x ≡ 0x7ff0000000000000 → x ≡ root x
unfolding of_bits root
of_infinity x holds e =
    let is : x ≡ inf false = sym (back binary64 x 0x7ff0000000000000 holds (sym e)) in
    rw is refl

-- what is left is finite and positive
pub positive : (x : Float) → ne x x ≡ false → lt x plain_zero ≡ false → eq x plain_zero ≡ false
    → (to_bits binary64 x ≡ 0x7ff0000000000000 → ⊥) → (m : ℕ) × (e : ℤ) × (x ≡ fin false (suc m) e)
unfolding ne lt eq to_bits
positive nan n l z i = absurd (true≢false n)
positive (inf true) n l z i = absurd (true≢false l)
positive (inf false) n l z i = absurd (i refl)
positive (fin s zero e) n l z i = both (zero_level s e) z
positive (fin true (suc m) e) n l z i = both (negative_below m e) l
positive (fin false (suc m) e) n l z i = (m, e, refl)

-- the pattern of a finite positive double is above 0 and below the infinity's
module _ (m : ℕ) (e : ℤ) (bits : ℕ) (is : of_bits binary64 bits ≡ fin false (suc m) e) where
  some_bits : 1 ≤ bits
  unfolding of_bits
  some_bits = pos_of_ne-zero (λ (z : bits ≡ 0).
      let none : fin false 0 (pos 0) ≡ fin false (suc m) e = sym (ap (of_bits binary64) z) ∙ is in
      let number : 0 ≡ suc m = cc in
      omega arith)

  -- the sign of a pattern below the infinity's is the number's
  no_sign : (s : Bool) (p : ℕ) → bits ≡ signed binary64 s p → p < 0x7ff0000000000000 → false ≡ s
  no_sign s p split h = elim (lt_or_ge p (2 ^ 52)) [
    | inl l ↦ (subst (λ (x : Float). HasValue x s p (2 ^ 1074)) same (value_of_tail binary64 s p l)).0
    | inr g ↦
        (subst (λ (x : Float). HasValue x s (digits binary64 p * 2 ^ place binary64 p) (2 ^ 1074)) same
        (value_of_digits binary64 s p g h)).0
  ]
    where
      same : of_bits binary64 (signed binary64 s p) ≡ fin false (suc m) e
      same = ap (of_bits binary64) (sym split) ∙ is

  -- a pattern from the infinity's on is not a finite number's
  no_more : (s b : Bool) → fin false (suc m) e ≡ cond b (inf s) nan → ⊥
  no_more s true h = let z : ◌≡◌ {A = ℕ} 0 1 = cc in omega arith
  no_more s false h = let z : ◌≡◌ {A = ℕ} 0 1 = cc in omega arith

  finite_bits : bits < 2 ^ 64 → bits < 0x7ff0000000000000
  finite_bits within =
      let split = sign_and_rest binary64 bits within in
      let s = split.0 in
      let p = bits % 2 ^ 63 in
      elim (lt_or_ge p 0x7ff0000000000000) [
        | inl l ↦
            let plain : bits ≡ 0 + p = split.1 ∙ ap (λ (t : Bool). signed binary64 t p) (sym (no_sign s p split.1 l)) in
            omega arith
        | inr g ↦
            absurd (no_more s (eqb (p % 2 ^ 52) 0) (sym is ∙ ap (of_bits binary64) split.1 ∙ no_number binary64 s p g (omega arith)))
      ]

-- So such a double is what `positive_root` takes, and its answer is the root.
pub record Positive (x : Float) (bits : ℕ) : Type 0 where
  pub bounds : (1 ≤ bits) × (bits < 0x7ff0000000000000)
  pub rooted : (r : Float) → T (fits binary64 r) → NearestRoot (of_bits binary64 bits) r → Rooted x r

pub positive_bits : (x : Float) (bits : ℕ) → T (fits binary64 x) → bits ≡ to_bits binary64 x
    → ne x x ≡ false → lt x plain_zero ≡ false → eq x plain_zero ≡ false
    → (bits ≡ 0x7ff0000000000000 → ⊥) → Positive x bits
positive_bits x bits holds of_x n l z i =
    let number = positive x n l z (λ (h : to_bits binary64 x ≡ 0x7ff0000000000000). i (of_x ∙ h)) in
    let m = number.0 in
    let e = number.1 in
    let is : of_bits binary64 bits ≡ fin false (suc m) e = back binary64 x bits holds of_x ∙ number.2 in
    record {
      bounds = (some_bits m e bits is, finite_bits m e bits is (subst (λ (b : ℕ). b < 2 ^ 64) (sym of_x) (to_bits-lt binary64 x holds)));
      rooted =
          λ r fits-r near.
          let meaning : SquareRoot x r =
          subst (λ (y : Float). SquareRoot y r) (sym number.2) (subst (λ (y : Float). NearestRoot y r) is near) in
          record { rule = agree x r holds fits-r meaning; meaning = meaning };
    }
