-- The curves of decrackle: the slopes at the anchors, a curve's word, and a run rewritten word by word. Assumes nothing.
use mathlib.Core.Path.{◌≡◌, refl, sym, ap, ◌∙◌}
use mathlib.Core.List.{List}
use Prim.Native.Nat.{ℕ, zero, suc, ◌+◌, ◌-◌, ◌≤◌, ◌<◌}
use native.Mathlib.Omega.{arith}
use native.Mathlib.Nat.{sub-zero}
use borrow.Author.Tests.{lt-ltb, le-ltb, le-leb, lt-leb}
use lib.ListN.{length, get_or, set, drop, length-set}
use lib.Ieee.{Float, binary32, of_bits, to_bits, neg}
use Rattle.leaves.specs.Arithmetic.{◌+₃₂◌, ◌-₃₂◌, ◌*₃₂◌, ◌/₃₂◌, float, count}
use Rattle.leaves.proofs.Literals.{nought_word, one_word, two_word, three_word}
use Rattle.redraw.specs.Whole.{sample}
use Rattle.redraw.specs.Inner.{words_in, Room}
use Rattle.redraw.proofs.Workspace.{store_words, store_behind, word_there, words_count}
use Rattle.decrackle.specs.Decrackle.{slope_before, slope_behind, hermite_at, hermite_from, repair_hermite}

-- ---- The slopes

-- a sample among the words of the workspace
sample_there : (n i : ℕ) (w : List ℕ) (x : Float) → i < n → x ≡ of_bits binary32 (get_or w i 0) → x ≡ sample (words_in n w) i
unfolding float
sample_there n i w x h e = e ∙ ap (of_bits binary32) (sym (word_there n i 0 w h))

pub slope_before_none : (out : List ℕ) (start : ℕ) → start < 2 → of_bits binary32 0 ≡ slope_before out start
unfolding slope_before
slope_before_none out start h = rw (lt-leb _ _ h) nought_word

pub slope_before_some : (n start : ℕ) (w : List ℕ) (x y : Float) → 2 ≤ start → start ≤ n
    → x ≡ of_bits binary32 (get_or w (start - 1) 0) → y ≡ of_bits binary32 (get_or w (start - 2) 0)
    → x -₃₂ y ≡ slope_before (words_in n w) start
unfolding slope_before
slope_before_some n start w x y h k ex ey =
    rw (le-leb _ _ h, sample_there n (start - 1) w x (omega arith) ex, sample_there n (start - 2) w y (omega arith) ey) refl

pub slope_behind_none : (n end : ℕ) (w : List ℕ) → Room n w → n ≤ end + 1 → of_bits binary32 0 ≡ slope_behind (words_in n w) end
unfolding slope_behind
slope_behind_none n end w room h = rw (words_count n w room, le-ltb _ _ h) nought_word

pub slope_behind_some : (n end : ℕ) (w : List ℕ) (x y : Float) → Room n w → end + 1 < n
    → x ≡ of_bits binary32 (get_or w (end + 1) 0) → y ≡ of_bits binary32 (get_or w end 0)
    → x -₃₂ y ≡ slope_behind (words_in n w) end
unfolding slope_behind
slope_behind_some n end w x y room h ex ey =
    rw (words_count n w room, lt-ltb _ _ h, sample_there n (end + 1) w x h ex, sample_there n end w y (omega arith) ey) refl

-- ---- A curve's word, with the place under another name

pub hermite-word : (p0 p1 m0 m1 span a : Float) (k w : ℕ) → a ≡ count (k + 1)
    → (let t = a /₃₂ span in
    let t2 = t *₃₂ t in
    let t3 = t2 *₃₂ t in
    let h00 = of_bits binary32 1073741824 *₃₂ t3 -₃₂ of_bits binary32 1077936128 *₃₂ t2 +₃₂ of_bits binary32 1065353216 in
    let h10 = t3 -₃₂ of_bits binary32 1073741824 *₃₂ t2 +₃₂ t in
    let h01 = neg (of_bits binary32 1073741824) *₃₂ t3 +₃₂ of_bits binary32 1077936128 *₃₂ t2 in
    let h11 = t3 -₃₂ t2 in
    w ≡ to_bits binary32 (h00 *₃₂ p0 +₃₂ h10 *₃₂ (m0 *₃₂ span) +₃₂ h01 *₃₂ p1 +₃₂ h11 *₃₂ (m1 *₃₂ span)))
    → w ≡ to_bits binary32 (hermite_at p0 p1 m0 m1 span k)
unfolding hermite_at
hermite-word p0 p1 m0 m1 span a k w ea e = e ∙ rw (ea, one_word, two_word, three_word) refl

-- ---- A run, rewritten word by word

-- what stands behind the words stays
pub curve_behind : (start end k n w : ℕ) (work l : List ℕ) → k < end - start → start ≤ end → end < n → drop n work ≡ l
    → drop n (set work (start + k) w) ≡ l
curve_behind start end k n w work l h order high e = store_behind n (start + k) w work (omega arith) ∙ e

module _ (p0 p1 m0 m1 span : Float) (start : ℕ) where
  -- one word is stored, and what is left gives the whole
  pub curve_stored : (end k n w : ℕ) (work whole : List ℕ) → k < end - start → start ≤ end → end < n
      → w ≡ to_bits binary32 (hermite_at p0 p1 m0 m1 span k)
      → hermite_from p0 p1 m0 m1 span start k (end - start - k) (words_in n work) ≡ whole
      → hermite_from p0 p1 m0 m1 span start (k + 1) (end - start - (k + 1)) (words_in n (set work (start + k) w)) ≡ whole
  unfolding hermite_from
  curve_stored end k n w work whole h order high ew rest =
      let left : end - start - k ≡ suc (end - start - (k + 1)) = omega arith in
      rw (store_words n (start + k) w work (omega arith), ew)
      (sym (ap (λ (j : ℕ). hermite_from p0 p1 m0 m1 span start k j (words_in n work)) left) ∙ rest)

  -- where nothing is left, the whole is there
  pub curve_all : (k m : ℕ) (out whole : List ℕ) → m ≤ k → hermite_from p0 p1 m0 m1 span start k (m - k) out ≡ whole → out ≡ whole
  unfolding hermite_from
  curve_all k m out whole h rest =
      let none : m - k ≡ 0 = omega arith in
      sym (ap (λ (j : ℕ). hermite_from p0 p1 m0 m1 span start k j out) none) ∙ rest

  length_curve : (k m : ℕ) (out : List ℕ) → length (hermite_from p0 p1 m0 m1 span start k m out) ≡ length out
  unfolding hermite_from
  length_curve k zero out = refl
  length_curve k (suc m) out = length_curve (k + 1) m _ ∙ length-set out (start + k) _

-- with what the anchors give under other names
pub curve_is : (p0 p1 m0 m1 span : Float) (n start end : ℕ) (w : List ℕ) → 1 ≤ start → start ≤ end → end < n
    → p0 ≡ of_bits binary32 (get_or w (start - 1) 0) → p1 ≡ of_bits binary32 (get_or w end 0)
    → m0 ≡ slope_before (words_in n w) start → m1 ≡ slope_behind (words_in n w) end → span ≡ count (end - (start - 1))
    → hermite_from p0 p1 m0 m1 span start 0 (end - start - 0) (words_in n w) ≡ repair_hermite start end (words_in n w)
unfolding repair_hermite
curve_is p0 p1 m0 m1 span n start end w low order high e0 e1 f0 f1 es =
    rw (sub-zero (end - start), sample_there n (start - 1) w p0 (omega arith) e0, sample_there n end w p1 high e1, f0, f1, es) refl

-- a run rewritten has as many words
pub length_rewritten : (s e : ℕ) (out : List ℕ) → length (repair_hermite s e out) ≡ length out
unfolding repair_hermite
length_rewritten s e out = length_curve _ _ _ _ _ s 0 (e - s) out
