-- The ends of a recording are never flagged: their detector is 0, and the factor times a floor of 1e-6 or more is never below 0.
-- Assumes nothing.
use mathlib.Core.Path.{◌≡◌, refl, sym, ap, ◌∙◌, subst}
use mathlib.Core.Bool.{Bool, true, false, ◌||◌, cond}
use mathlib.Core.List.{List}
use mathlib.Core.Logic.{◌⊎◌, inl, inr}
use Prim.Native.Nat.{ℕ, zero, suc, ◌+◌, ◌*◌, ◌≤◌}
use native.Mathlib.Omega.{arith}
use native.Mathlib.Nat.{zero-add}
use borrow.Author.Tests.{eq-eqb, le-ltb, ltb-false}
use lib.Dec.{eqb}
use lib.IntN.{pos, negsuc}
use lib.ListN.{length, get_or}
use lib.Ieee.{Float, nan, inf, fin, binary32, lt, up, down}
use Rattle.leaves.specs.Arithmetic.{◌-₃₂◌, ◌*₃₂◌, nought, one, count}
use Rattle.leaves.specs.Floats.{magnitude, larger, held}
use Rattle.decrackle.specs.Decrackle.{detector, factor_for, magnitudes_from, magnitudes, opening_floor, least_floor, floor_after, flagged}
use Rattle.decrackle.specs.Decrackle.{flags_from, flags_of}
use Rattle.decrackle.specs.Consequences.{EndsNeverFlagged}
use Rattle.decrackle.proofs.Signs.{unsigned, unsigned_not_below, mul_unsigned, sub_unsigned, larger_unsigned}

-- ---- The factor: 12 less what is not above 10

abbrev ten : Float
ten = fin false 5 (pos 1)

abbrev twelve : Float
twelve = fin false 3 (pos 2)

ten_is : count 10 ≡ ten
unfolding count
ten_is = refl

twelve_is : count 12 ≡ twelve
unfolding count
twelve_is = refl

not_above : (x : Float) → lt ten x ≡ false → lt twelve x ≡ false
unfolding lt
not_above nan h = refl
not_above (inf s) h = h
not_above (fin true m e) h = refl
not_above (fin false m e) h =
    let under : m * up e * 1 ≤ 10 * down e = ltb-false (10 * down e) (m * up e * 1) h in
    le-ltb (12 * down e) (m * up e * 1) (omega (arith, under))

-- held, no float is above 12
held_under : (x : Float) → lt twelve (held one ten x) ≡ false
unfolding held
held_under x = go (lt x one) (lt ten x) refl
  where
    go : (p q : Bool) → lt ten x ≡ q → lt twelve (cond p one (cond q ten x)) ≡ false
    go true q k = unfold lt in refl
    go false true k = unfold lt in refl
    go false false k = not_above x k

factor_unsigned : (sensitivity : Float) → unsigned (factor_for sensitivity) ≡ true
unfolding factor_for
factor_unsigned sensitivity =
    ap (λ (x : Float). unsigned (x -₃₂ held one (count 10) sensitivity)) twelve_is
    ∙ ap (λ (x : Float). unsigned (twelve -₃₂ held one x sensitivity)) ten_is
    ∙ sub_unsigned binary32 3 (pos 2) (held one ten sensitivity) (held_under sensitivity)

-- ---- One end: its detector is 0, which is flagged at no floor

-- 1e-6 as m * 2 ^ -43
least_is : least_floor ≡ fin false 8796093 (negsuc 42)
unfolding least_floor
least_is = refl

nought_passes : (factor floor : Float) → unsigned factor ≡ true → flagged factor floor nought ≡ false
unfolding flagged
nought_passes factor floor h =
    let least : unsigned (larger floor least_floor) ≡ true = rw least_is (larger_unsigned 8796093 (negsuc 42) floor (omega arith)) in
    unsigned_not_below (factor *₃₂ larger floor least_floor) (mul_unsigned binary32 factor (larger floor least_floor) h least)

-- the first place or the last
abbrev pub End : List ℕ → ℕ → Type 0
End s i = (i ≡ 0) ⊎ (i + 1 ≡ length s)

or-true : (b : Bool) → b || true ≡ true
or-true true = refl
or-true false = refl

pub end_detector : (s : List ℕ) (i : ℕ) → End s i → detector s i ≡ nought
unfolding detector
end_detector s i (inl h) = rw (eq-eqb _ _ h) refl
end_detector s i (inr h) = rw (eq-eqb _ _ h, or-true (eqb i 0)) refl

-- ---- All flags: those from place i on, whatever the floor before it is, where the place that is j further is an end

module _ (factor : Float) (s : List ℕ) (h : unsigned factor ≡ true) where
  end_flags : (floor : Float) (i n j : ℕ) → End s (i + j) → get_or (flags_from factor floor (magnitudes_from s i n)) j false ≡ false
  unfolding magnitudes_from flags_from
  end_flags floor i zero j e = refl
  end_flags floor i (suc n) zero e =
      let next : Float = floor_after floor (magnitude (detector s i)) in
      let here : i + 0 ≡ i = omega arith in
      ap (λ (d : Float). flagged factor next (magnitude d)) (end_detector s i (subst (End s) here e)) ∙ nought_passes factor next h
  end_flags floor i (suc n) (suc j) e =
      let there : i + suc j ≡ i + 1 + j = omega arith in
      end_flags (floor_after floor (magnitude (detector s i))) (i + 1) n j (subst (End s) there e)

pub ends_never_flagged : EndsNeverFlagged
unfolding flags_of magnitudes
ends_never_flagged start sensitivity samples i h =
    end_flags (factor_for sensitivity) samples (factor_unsigned sensitivity) (opening_floor start (magnitudes samples)) 0 (length samples) i
    (subst (End samples) (sym (zero-add i)) h)
