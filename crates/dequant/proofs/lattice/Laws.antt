-- What both forms of dequantize share: the strength, the step, the target, the snapshot and the places that are named, each as
-- the code works it out. Assumes nothing.
use mathlib.Core.Path.{◌≡◌, refl, sym, ap, ◌∙◌}
use mathlib.Core.Bool.{Bool, false, not, ◌&&◌}
use mathlib.Core.List.{List, ◌++◌}
use Prim.Native.Nat.{ℕ, zero, suc, ◌+◌, ◌-◌, ◌*◌, ◌%◌, ◌^◌, ◌≤◌, ◌<◌, min, max}
use native.Mathlib.Omega.{arith}
use native.Mathlib.Nat.{sub-zero}
use borrow.Author.Tests.{le-leb, lt-leb, leb-true, not-false}
use lib.Dec.{leb, ltb}
use lib.Pow.{pow_mono}
use lib.ListN.{length, get_or, set, take, drop}
use lib.Seq.{sets}
use Rattle.std.proofs.lemmas.List.Edits.{sets-eq}
use Rattle.std.specs.List.{copy_within}
use lib.Ieee.{Float, binary32, of_bits, lt}
use Rattle.leaves.specs.Arithmetic.{◌+₃₂◌, ◌-₃₂◌, ◌*₃₂◌, ◌/₃₂◌, count}
use Rattle.leaves.specs.Floats.{held, rounded}
use Rattle.leaves.proofs.Literals.{nought_word, half_word, one_word, two_word}
use Rattle.leaves.proofs.Numbers.{one_up}
use Rattle.leaves.proofs.Parts.{take-sets, drop-sets, part_of_sets}
use Rattle.leaves.proofs.Choice.{both_hold}
use Rattle.redraw.specs.Whole.{drawn}
use Rattle.redraw.specs.Inner.{words_in, flags_in, rest_of, flag_word, Holds, Room}
use Rattle.redraw.proofs.Workspace.{flag_there, words_count}
use Rattle.dequant.specs.Dequant.{strength_of, step_of, target, inner_from, inner, acts}
use Rattle.redraw.proofs.Flags.{flag_words, flags_stored}

-- ---- The settings

pub strength_is : (strength r : Float) → r ≡ held (of_bits binary32 0) (of_bits binary32 1065353216) strength → r ≡ strength_of strength
unfolding strength_of
strength_is strength r e = e ∙ rw (nought_word, one_word) refl

-- the shift, by at most 24 places
module _ (bits kept : ℕ) (e : kept ≡ min (max bits 4) 24) where
  shift_most : kept ≤ 24
  shift_most = omega arith

  pub shift_few : kept < 32
  shift_few = omega (arith, shift_most)

  pub shift_counts : (1 * 2 ^ kept) % 2 ^ 32 ≤ 2 ^ 24
  shift_counts = rw (one_up kept 32 shift_few) (pow_mono {j = 24} shift_most)

  pub step_is : (c : Float) → c ≡ count ((1 * 2 ^ kept) % 2 ^ 32) → of_bits binary32 1073741824 /₃₂ c ≡ step_of bits
  unfolding step_of
  step_is c f = rw (two_word, f, one_up kept 32 shift_few, e) refl

-- ---- The target, and whether a form does anything

pub target_is : (step x pred q r : Float) → q ≡ rounded (x /₃₂ step)
    → r ≡ held (q *₃₂ step -₃₂ step *₃₂ of_bits binary32 1056964608) (q *₃₂ step +₃₂ step *₃₂ of_bits binary32 1056964608) pred
    → r ≡ target step x pred
unfolding target
target_is step x pred q r eq e = e ∙ rw (eq, half_word) refl

module _ (strength : Float) (least n : ℕ) where
  pub acts_short : n < least → false ≡ acts strength least n
  unfolding acts
  acts_short h = rw (lt-leb least n h) refl

  pub acts_long : least ≤ n → lt (of_bits binary32 0) strength ≡ acts strength least n
  unfolding acts
  acts_long h = rw (le-leb least n h, nought_word) refl

-- what its first test tells of the size
pub acts_size : (strength : Float) (least n : ℕ) (b : Bool) → b ≡ acts strength least n → not b ≡ false → least ≤ n
unfolding acts
acts_size strength least n b e h = leb-true least n (both_hold (leb least n) _ (sym e ∙ not-false b h)).0

-- ---- The snapshot

-- the words are copied right behind themselves
pub copied_behind : (n : ℕ) (w : List ℕ) → Room n w → copy_within w 0 n n ≡ sets w n (words_in n w)
copied_behind n w room =
    let size : length (take n w) ≡ n = words_count n w room in
    let stored : sets w n (take n w) ≡ take n w ++ take n w ++ drop (n + length (take n w)) w =
    sets-eq (take n w) w n (omega (arith, room.enough, size)) in
    sym (stored ∙ ap (λ (k : ℕ). take n w ++ take n w ++ drop (n + k) w) size
    ∙ ap (λ (k : ℕ). take n w ++ take k w ++ drop (n + k) w) (sym (sub-zero n)))

-- what the workspace is with it: the words stay, it stands where the flags were, and beyond the 2n words all stays
module _ (n : ℕ) (w v : List ℕ) (room : Room n w) (e : v ≡ sets w n (words_in n w)) where
  pub snapped_words : words_in n v ≡ words_in n w
  snapped_words = ap (λ (l : List ℕ). take n l) e ∙ take-sets w (words_in n w) n n (omega arith)

  pub snapped_flags : flags_in n v ≡ words_in n w
  snapped_flags =
      ap (λ (l : List ℕ). take n (drop n l)) e ∙ part_of_sets w (words_in n w) n n (words_count n w room) (omega (arith, room.enough))

  pub snapped_rest : rest_of n v ≡ rest_of n w
  snapped_rest =
      ap (λ (l : List ℕ). rest_of n l) e ∙ drop-sets w (words_in n w) n (n + n) (omega (arith, words_count n w room))

-- what is read of it at place k, which the code reads at j
pub snapped_there : (n k j : ℕ) (w : List ℕ) → k < n → n + k ≡ j → get_or (flags_in n w) k 0 ≡ get_or w j 0
snapped_there n k j w h e = flag_there n k w h ∙ ap (λ (p : ℕ). get_or w p 0) e

-- ---- The places that are named

length_inner : (edge n i left : ℕ) → length (inner_from edge n i left) ≡ left
unfolding inner_from
length_inner edge n i zero = refl
length_inner edge n i (suc left) = ap suc (length_inner edge n (i + 1) left)

module _ (edge n i : ℕ) (w whole : List ℕ) (rest : sets w (n + i) (flag_words (inner_from edge n i (n - i))) ≡ whole) where
  -- one flag more, and what is left to store gives the whole
  pub named_more : (x : ℕ) → i < n → x ≡ flag_word (leb edge i && ltb (i + edge) n)
      → sets (set w (n + i) x) (n + (i + 1)) (flag_words (inner_from edge n (i + 1) (n - (i + 1)))) ≡ whole
  unfolding inner_from
  named_more x h e =
      let more : n - i ≡ suc (n - (i + 1)) = omega arith in
      let next : n + (i + 1) ≡ suc (n + i) = omega arith in
      rw (e, next) (rw more at rest)

  pub named_all : n ≤ i → w ≡ whole
  unfolding inner_from
  named_all h = let none : n - i ≡ 0 = omega arith in rw none at rest

-- from the start on, all flags are left
pub named_none : (edge n : ℕ) (w : List ℕ) → sets w (n + 0) (flag_words (inner_from edge n 0 (n - 0))) ≡ sets w n (flag_words (inner edge n))
named_none edge n w =
    let here : n + 0 ≡ n = omega arith in
    rw (here, sub-zero n) refl

-- and once they are stored, those places are named
pub named_holds : (edge n : ℕ) (w v : List ℕ) → Room n w → v ≡ sets w n (flag_words (inner edge n))
    → Holds n (drawn (words_in n w) (inner edge n)) w v
named_holds edge n w v room e = flags_stored n (inner edge n) w v room (length_inner edge n 0 n) e
