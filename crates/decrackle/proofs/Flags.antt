-- The flags of decrackle: the detector, the floor, and the flags as a loop stores them, one by one. Assumes nothing.
use mathlib.Core.Path.{◌≡◌, refl, sym, ap, ◌∙◌}
use mathlib.Core.Bool.{Bool, true, false, not}
use mathlib.Core.List.{List, [], ◌∷◌, map}
use Prim.Native.Nat.{ℕ, suc, ◌+◌, ◌-◌, ◌≤◌, ◌<◌}
use native.Mathlib.Omega.{arith}
use native.Mathlib.Nat.{add-zero, sub-zero}
use borrow.Author.Tests.{eq-eqb, ne_eqb}
use lib.Dec.{eqb}
use lib.ListN.{length, get_or, set}
use lib.Seq.{sets}
use lib.Ieee.{Float, binary32, of_bits, of_int, round, lt}
use Rattle.leaves.specs.Arithmetic.{◌+₃₂◌, ◌-₃₂◌, ◌*₃₂◌, near, float, count}
use Rattle.leaves.specs.Floats.{magnitude, larger, held}
use Rattle.leaves.proofs.Literals.{nought_word, half_word, one_word}
use Rattle.recording.specs.Runs.{begins}
use Rattle.recording.proofs.Runs.{begins_after}
use Rattle.redraw.specs.Whole.{drawn}
use Rattle.redraw.specs.Inner.{words_in, flag_word, flagged_at, Holds, Room}
use Rattle.redraw.proofs.Workspace.{flagged_there}
use Rattle.redraw.proofs.Flags as stored
use Rattle.decrackle.specs.declared.Start.{Start}
use Rattle.decrackle.specs.Decrackle.{factor_for, from_middle, detector, magnitudes_from, magnitudes, least_floor, opening_floor, alpha}
use Rattle.decrackle.specs.Decrackle.{floor_after, flagged, flags_from, flags_of}
use Rattle.decrackle.proofs.Opening.{millionth, length_magnitudes}

-- ---- The code's literals

ten : of_bits binary32 1092616192 ≡ count 10
unfolding of_bits count of_int
ten = refl

twelve : of_bits binary32 1094713344 ≡ count 12
unfolding of_bits count of_int
twelve = refl

thousandth : of_bits binary32 981668463 ≡ near binary32 1 1000
unfolding of_bits near round
thousandth = refl

-- ---- The factor, the detector and the floor

pub factor_is : (sensitivity x : Float) → x ≡ held (of_bits binary32 1065353216) (of_bits binary32 1092616192) sensitivity
    → of_bits binary32 1094713344 -₃₂ x ≡ factor_for sensitivity
unfolding factor_for
factor_is sensitivity x e = rw (e, one_word, ten, twelve) refl

pub middle_is : (before here behind : Float) → here -₃₂ of_bits binary32 1056964608 *₃₂ (before +₃₂ behind) ≡ from_middle before here behind
unfolding from_middle
middle_is before here behind = rw half_word refl

module _ (s : List ℕ) (i : ℕ) where
  pub detector_first : i ≡ 0 → of_bits binary32 0 ≡ detector s i
  unfolding detector
  detector_first h = rw (eq-eqb _ _ h) nought_word

  module _ (later : i ≡ 0 → ⊥) where
    pub detector_last : i + 1 ≡ length s → of_bits binary32 0 ≡ detector s i
    unfolding detector
    detector_last h = rw (ne_eqb _ _ later, eq-eqb _ _ h) nought_word

    pub detector_between : (x before behind r : Float) → (i + 1 ≡ length s → ⊥)
        → before ≡ of_bits binary32 (get_or s (i - 1) 0) → behind ≡ of_bits binary32 (get_or s (i + 1) 0) → x ≡ of_bits binary32 (get_or s i 0)
        → r ≡ from_middle before x behind → r ≡ detector s i
    unfolding detector float
    detector_between x before behind r h eb ea ex er = rw (ne_eqb _ _ later, ne_eqb _ _ h, er, eb, ea, ex) refl

pub floor_is : (floor a : Float)
    → floor *₃₂ (of_bits binary32 1065353216 -₃₂ of_bits binary32 981668463) +₃₂ a *₃₂ of_bits binary32 981668463 ≡ floor_after floor a
unfolding floor_after alpha
floor_is floor a = rw (one_word, thousandth) refl

pub out_is : (factor floor a least : Float) → least ≡ larger floor (of_bits binary32 897988541) → lt (factor *₃₂ least) a ≡ flagged factor floor a
unfolding flagged least_floor
out_is factor floor a least e = rw (e, millionth) refl

-- ---- The flags, stored one by one

-- there are as many as magnitudes
pub length_flags : (factor floor : Float) (ms : List Float) → length (flags_from factor floor ms) ≡ length ms
unfolding flags_from
length_flags factor floor [] = refl
length_flags factor floor (a ∷ ms) = ap suc (length_flags factor (floor_after floor a) ms)

module _ (factor : Float) (s : List ℕ) where
  -- what is left to store from place i on, with the floor before it
  abbrev pub left_from : Float → ℕ → ℕ → List ℕ
  left_from floor i n = map flag_word (flags_from factor floor (magnitudes_from s i (n - i)))

  -- one flag is stored, and what is left to store gives the whole
  pub flag_stored : (floor d a next : Float) (i n w : ℕ) (work whole : List ℕ) → i < n
      → d ≡ detector s i → a ≡ magnitude d → next ≡ floor_after floor a → w ≡ flag_word (flagged factor next a)
      → sets work (n + i) (left_from floor i n) ≡ whole
      → sets (set work (n + i) w) (n + (i + 1)) (left_from next (i + 1) n) ≡ whole
  unfolding magnitudes_from flags_from
  flag_stored floor d a next i n w work whole h ed ea en ew rest =
      let left : n - i ≡ suc (n - (i + 1)) = omega arith in
      let there : n + (i + 1) ≡ suc (n + i) = omega arith in
      rw (there, ew, en, ea, ed) (sym (ap (λ (k : ℕ). sets work (n + i) (map flag_word (flags_from factor floor (magnitudes_from s i k)))) left) ∙ rest)

  -- where nothing is left to store, the whole is there
  pub flags_stored : (floor : Float) (i n : ℕ) (work whole : List ℕ) → n ≤ i → sets work (n + i) (left_from floor i n) ≡ whole → work ≡ whole
  unfolding magnitudes_from flags_from
  flags_stored floor i n work whole h rest =
      let none : n - i ≡ 0 = omega arith in
      sym (ap (λ (k : ℕ). sets work (n + i) (map flag_word (flags_from factor floor (magnitudes_from s i k)))) none) ∙ rest

-- all of them, from the opening floor on
pub flags_held : (start : Start) (sensitivity factor opening floor : Float) (s w u : List ℕ) (i : ℕ) → Room (length s) w
    → factor ≡ factor_for sensitivity → opening ≡ opening_floor start (magnitudes s) → length s ≤ i
    → sets u (length s + i) (left_from factor s floor i (length s)) ≡ sets w (length s + 0) (left_from factor s opening 0 (length s))
    → Holds (length s) (drawn (words_in (length s) w) (flags_of start sensitivity s)) w u
unfolding flags_of magnitudes
flags_held start sensitivity factor opening floor s w u i room ef eo h rest =
    let n = length s in
    let all : u ≡ sets w n (map flag_word (flags_of start sensitivity s)) =
    flags_stored factor s floor i n u _ h rest ∙ rw (add-zero n, sub-zero n, eo, ef) refl in
    stored.flags_stored n (flags_of start sensitivity s) w u room (length_flags (factor_for sensitivity) _ (magnitudes s) ∙ length_magnitudes s 0 n) all

-- ---- Whether a place is flagged, by its word

module _ (n i : ℕ) (w : List ℕ) (h : i < n) where
  pub flag_clear : get_or w (n + i) 0 ≡ 0 → flagged_at n w i ≡ false
  flag_clear e = flagged_there n i w h ∙ ap not (eq-eqb _ _ e)

  pub flag_stands : (get_or w (n + i) 0 ≡ 0 → ⊥) → flagged_at n w i ≡ true
  flag_stands e = flagged_there n i w h ∙ ap not (ne_eqb _ _ e)

  -- a run begins there where the place before is not flagged
  pub begins_behind : (get_or w (n + i) 0 ≡ 0 → ⊥) → (i ≡ 0 → ⊥) → eqb (get_or w (n + i - 1) 0) 0 ≡ begins (flagged_at n w) i
  begins_behind e later =
      let back : n + i - 1 ≡ n + (i - 1) = omega arith in
      ap (λ (k : ℕ). eqb (get_or w k 0) 0) back ∙ twice (eqb (get_or w (n + (i - 1)) 0) 0)
      ∙ begins_after (flagged_at n w) i _ (flag_stands e) later (flagged_there n (i - 1) w (omega arith))
    where
      twice : (b : Bool) → b ≡ not (not b)
      twice true = refl
      twice false = refl
