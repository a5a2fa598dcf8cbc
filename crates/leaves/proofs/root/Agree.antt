-- The meaning of the square root and the function that the rules compute with say the same: `root x` has the meaning
-- (`meets`), nothing else has it (`only`), so whatever has it is `root x` (`agree`). For doubles. Assumes nothing.
use Rattle.std.proofs.Common.{◌≡◌, ℕ, zero, suc, ◌+◌, ◌*◌, ◌/◌, ◌^◌, ◌<◌, ◌≤◌, true, false, T, ℤ, sym, refl, ap, ◌∙◌, subst, le_of_eq, lt_of_lt_of_le, zero-lt-suc, mul_assoc, div-lt_iff_lt-mul, mul-lt-mul_of_pos_right, mul_right_comm, mul-div_cancel, arith, pow_pos, pow-add}
use lib.Ieee.{Float, nan, inf, fin, binary64, up, down, size, round, fits}
use lib.Ieee.Digits.{size-le}
use lib.Ieee.Fits.{down_pos, nan-fits, inf-fits, round-fits}
use lib.Ieee.Exact.{HasValue}
use Rattle.leaves.specs.Root.{Nearest, NearestRoot, SquareRoot, nearest_root, root_of_units, root}
use Rattle.leaves.proofs.Values.{Number, number_of, same_value, same_fraction, rescaled}
use Rattle.leaves.proofs.root.Squares.{nearest_only, nearest_root_is, nearest_most}
use Rattle.leaves.proofs.root.Scales.{units_of, scale_only, round_scaled, half, Scaled}
use Rattle.leaves.proofs.root.Scales.{scaled}

-- ---- the function has the meaning

-- it is a of the least doubles: m with zeros appended
record Units (m : ℕ) (e : ℤ) (a : ℕ) : Type 0 where
  zeros : ℕ
  is : a ≡ m * 2 ^ zeros
  value : m * up e * 2 ^ 1074 ≡ a * down e
  most : a < 2 ^ 2098

units : (m : ℕ) (e : ℤ) → Number binary64 m e → Units m e (m * up e * 2 ^ 1074 / down e)
units m e d =
    let digits = units_of 1074 m e d.fine in
    let is : m * up e * 2 ^ 1074 / down e ≡ m * 2 ^ digits.0 =
    ap (λ (z : ℕ). z / down e) digits.1 ∙ mul-div_cancel (m * 2 ^ digits.0) (down_pos e) in
    let value : m * up e * 2 ^ 1074 ≡ m * up e * 2 ^ 1074 / down e * down e = digits.1 ∙ ap (λ (z : ℕ). z * down e) (sym is) in
    let most : m * up e * 2 ^ 1074 / down e < 2 ^ 2098 =
    (div-lt_iff_lt-mul (down_pos e)).1
    (lt_of_lt_of_le (mul-lt-mul_of_pos_right d.finite (pow_pos 1074)) (le_of_eq (mul_right_comm (2 ^ 1024) (down e) (2 ^ 1074)))) in
    record { zeros = digits.0; is = is; value = value; most = most }

-- the function, a step at a time
root_is : (m : ℕ) (e : ℤ) → root (fin false (suc m) e) ≡ root_of_units (suc m * up e * 2 ^ 1074 / down e)
unfolding root
root_is m e = refl

root_of_units_is : (a : ℕ) → root_of_units a ≡ round binary64 false (nearest_root (a * 4 ^ 53 / 4 ^ half a) * 2 ^ half a) (2 ^ 590)
unfolding root_of_units
root_of_units_is a = refl

-- the result, with q for the number nearest to the root, loses nothing when it is rounded
result : (a q : ℕ) → a < 2 ^ 2098 → q ≤ 2 ^ 53 → HasValue (round binary64 false (q * 2 ^ half a) (2 ^ 590)) false (q * 2 ^ half a) (2 ^ 590)
result a q h few =
    let short : size a ≤ 2098 = size-le a 2098 h in
    let fine : 53 + (half a + 484) < 2098 = omega arith in
    round_scaled binary64 false q (half a) 590 484 few refl fine

-- The scale of 53 digits and the number nearest to the root there: what the function says of a positive double is what
-- the meaning asks.
of_units : (m : ℕ) (e : ℤ) (a : ℕ) → 0 < m → m < 2 ^ 53 → Units m e a → NearestRoot (fin false m e) (root_of_units a)
of_units m e a p few u =
    let k = half a in
    let n = a * 4 ^ 53 / 4 ^ k in
    let q = nearest_root n in
    let s : Scaled a k n = scaled a m u.zeros p few u.is in
    let nearest : Nearest n q = nearest_root_is n s.least s.most in
    let value : m * up e * 4 ^ 590 ≡ n * 4 ^ k * down e =
    sym (mul_assoc (m * up e) (2 ^ 1074) (4 ^ 53))
    ∙ ap (λ (z : ℕ). z * 4 ^ 53) u.value
    ∙ mul_right_comm a (down e) (4 ^ 53)
    ∙ ap (λ (z : ℕ). z * down e) (sym s.whole) in
    let exact : HasValue (root_of_units a) false (q * 2 ^ k) (2 ^ 590) =
    subst (λ (r : Float). HasValue r false (q * 2 ^ k) (2 ^ 590)) (sym (root_of_units_is a))
    (result a q u.most (nearest_most n q s.most nearest)) in
    record {
      n = n;
      q = q;
      u = k;
      v = 590;
      of_x = (refl, value);
      of_r = exact;
      digits = (s.least, s.most);
      nearest = nearest;
    }

positive : (m : ℕ) (e : ℤ) → Number binary64 (suc m) e → NearestRoot (fin false (suc m) e) (root (fin false (suc m) e))
positive m e d =
    subst (NearestRoot (fin false (suc m) e)) (sym (root_is m e))
    (of_units (suc m) e (suc m * up e * 2 ^ 1074 / down e) (zero-lt-suc m) d.few (units (suc m) e d))

-- The function has the meaning.
pub meets : (x : Float) → T (fits binary64 x) → SquareRoot x (root x)
unfolding root
meets nan t = refl
meets (inf true) t = refl
meets (inf false) t = refl
meets (fin s zero e) t = refl
meets (fin true (suc m) e) t = refl
meets (fin false (suc m) e) t = positive m e (number_of binary64 false m e t)

-- ---- nothing else has it

-- zeros appended twice, to the base b
appended : (b n u v : ℕ) → n * b ^ u * b ^ v ≡ n * b ^ (u + v)
appended b n u v = mul_assoc n (b ^ u) (b ^ v) ∙ ap (λ (z : ℕ). n * z) (sym (pow-add b u v))

-- Two roots of one number: the scale at which it has 105 or 106 digits is the same for both, so the number there is,
-- and so is the number nearest to its root.
pub nearest_root_only : (x r r' : Float) → T (fits binary64 r) → T (fits binary64 r') → NearestRoot x r → NearestRoot x r' → r ≡ r'
nearest_root_only x r r' t t' h h' =
    let cross : h.n * 4 ^ h.u * 4 ^ h'.v ≡ h'.n * 4 ^ h'.u * 4 ^ h.v =
    same_fraction x false (h.n * 4 ^ h.u) (4 ^ h.v) (h'.n * 4 ^ h'.u) (4 ^ h'.v) h.of_x h'.of_x in
    let same : (h.u + h'.v ≡ h'.u + h.v) × (h.n ≡ h'.n) =
    scale_only (4 ^ 52) h.n h'.n (h.u + h'.v) (h'.u + h.v) h.digits.0 h.digits.1 h'.digits.0 h'.digits.1
    (sym (appended 4 h.n h.u h'.v) ∙ cross ∙ appended 4 h'.n h'.u h.v) in
    let q-same : h.q ≡ h'.q =
    nearest_only h.n h.q h'.q h.nearest (subst (λ (z : ℕ). Nearest z h'.q) (sym same.1) h'.nearest) in
    let r-same : h'.q * 2 ^ h'.u * 2 ^ h.v ≡ h.q * 2 ^ h.u * 2 ^ h'.v =
    appended 2 h'.q h'.u h.v
    ∙ ap (λ (z : ℕ). h'.q * 2 ^ z) (sym same.0)
    ∙ ap (λ (z : ℕ). z * 2 ^ (h.u + h'.v)) (sym q-same)
    ∙ sym (appended 2 h.q h.u h'.v) in
    same_value binary64 false (h.q * 2 ^ h.u) (2 ^ h.v) r r' (pow_pos h.v) t t' h.of_r
    (rescaled r' false (h'.q * 2 ^ h'.u) (2 ^ h'.v) (h.q * 2 ^ h.u) (2 ^ h.v) (pow_pos h'.v) r-same h'.of_r)

-- One double only is the root of a number.
pub only : (x r r' : Float) → T (fits binary64 r) → T (fits binary64 r') → SquareRoot x r → SquareRoot x r' → r ≡ r'
only nan r r' t t' h h' = h ∙ sym h'
only (inf true) r r' t t' h h' = h ∙ sym h'
only (inf false) r r' t t' h h' = h ∙ sym h'
only (fin s zero e) r r' t t' h h' = h ∙ sym h'
only (fin true (suc m) e) r r' t t' h h' = h ∙ sym h'
only (fin false (suc m) e) r r' t t' h h' = nearest_root_only (fin false (suc m) e) r r' t t' h h'

-- ---- so they agree

-- the function gives a double
pub root_fits : (x : Float) → T (fits binary64 x) → T (fits binary64 (root x))
unfolding root
root_fits nan t = nan-fits binary64
root_fits (inf true) t = nan-fits binary64
root_fits (inf false) t = inf-fits binary64 false
root_fits (fin s zero e) t = t
root_fits (fin true (suc m) e) t = nan-fits binary64
root_fits (fin false (suc m) e) t = units_fit (suc m * up e * 2 ^ 1074 / down e)
  where
    units_fit : (a : ℕ) → T (fits binary64 (root_of_units a))
    units_fit a =
        subst (λ (r : Float). T (fits binary64 r)) (sym (root_of_units_is a))
        (round-fits binary64 false (nearest_root (a * 4 ^ 53 / 4 ^ half a) * 2 ^ half a) (2 ^ 590))

-- A double that has the meaning is what the function gives.
pub agree : (x r : Float) → T (fits binary64 x) → T (fits binary64 r) → SquareRoot x r → r ≡ root x
agree x r t u h = only x r (root x) u (root_fits x t) h (meets x t)
