-- The straight line across a gap: its ends, its words one after the other, and how it comes to stand in the gap.
-- Assumes nothing.
use Rattle.std.proofs.Common.{◌≡◌, ℕ, zero, suc, ◌+◌, ◌-◌, ◌<◌, ◌≤◌, true, false, List, [], ◌∷◌, length, get_or, take, drop, set, sym, refl, ap, ◌∙◌, arith, eq-eqb, ne_eqb, le-leb}
use native.Mathlib.Nat.{sub-zero}
use borrow.Author.Tests.{lt-leb}
use borrow.Rule.Slice.PartMut.{put_mid}
use lib.Seq.{sets}
use lib.Ieee.{Float, binary32, of_bits, to_bits}
use Rattle.leaves.specs.Arithmetic.{◌+₃₂◌, ◌-₃₂◌, ◌*₃₂◌, ◌/₃₂◌, float, count}
use Rattle.leaves.specs.Floats.{in_range}
use Rattle.leaves.proofs.Literals.{nought_word, one_word}
use Rattle.leaves.proofs.Lists.{lent_count, lent_back}
use Rattle.recording.specs.Recording.{span, ranged}
use Rattle.recording.specs.declared.Reason.TheVariants.{Result}
use Rattle.recording.specs.Answer.{Answer}
use Rattle.std.specs.Prelude.{Ok, Err}
use Rattle.inpaint.specs.Gap.{left_of, right_of, line_at, line_from, line}
use Rattle.leaves.proofs.Stores.{stored_over}

-- ---- Its ends and its words

module _ (samples : List ℕ) (i : ℕ) where
  pub left_none : i ≡ 0 → of_bits binary32 0 ≡ left_of samples i
  unfolding left_of
  left_none h = rw (eq-eqb _ _ h) nought_word

  pub left_some : (x : Float) → (i ≡ 0 → ⊥) → x ≡ of_bits binary32 (get_or samples (i - 1) 0) → x ≡ left_of samples i
  unfolding left_of float
  left_some x h e = rw (ne_eqb _ _ h) e

  pub right_none : length samples ≤ i → of_bits binary32 0 ≡ right_of samples i
  unfolding right_of
  right_none h = rw (le-leb _ _ h) nought_word

  pub right_some : (x : Float) → i < length samples → x ≡ of_bits binary32 (get_or samples i 0) → x ≡ right_of samples i
  unfolding right_of float
  right_some x h e = rw (lt-leb _ _ h) e

-- the word of a sample, with both counts under other names
pub line_word : (left right a b : Float) (len i w : ℕ) → a ≡ count (i + 1) → b ≡ count (len + 1)
    → w ≡ to_bits binary32 (left *₃₂ (of_bits binary32 1065353216 -₃₂ a /₃₂ b) +₃₂ right *₃₂ (a /₃₂ b))
    → w ≡ to_bits binary32 (line_at left right len i)
unfolding line_at
line_word left right a b len i w ea eb e = e ∙ rw (ea, eb, one_word) refl

module _ (left right : Float) (len : ℕ) where
  pub length_from : (i n : ℕ) → length (line_from left right len i n) ≡ n
  unfolding line_from
  length_from i zero = refl
  length_from i (suc n) = ap suc (length_from (i + 1) n)

  module _ (i w : ℕ) (h : i < len) (ew : w ≡ to_bits binary32 (line_at left right len i)) where
    -- one word, and those behind it
    from_more : line_from left right len i (len - i) ≡ w ∷ line_from left right len (i + 1) (len - (i + 1))
    unfolding line_from
    from_more =
        let more : len - i ≡ suc (len - (i + 1)) = omega arith in
        rw (ew, more) refl

    -- it is in range, or is the first that is not
    pub word_in : (start : ℕ) → in_range w ≡ true
        → ranged (span (start + i) (line_from left right len i (len - i)))
        ≡ ranged (span (start + (i + 1)) (line_from left right len (i + 1) (len - (i + 1))))
    unfolding ranged span
    word_in start e =
        let next : start + i + 1 ≡ start + (i + 1) = omega arith in
        ap (λ (ws : List ℕ). ranged (span (start + i) ws)) from_more ∙ rw (e, next) refl

    pub word_out : (start : ℕ) → in_range w ≡ false
        → ranged (span (start + i) (line_from left right len i (len - i))) ≡ Err (Result (start + i))
    unfolding ranged span
    word_out start e = ap (λ (ws : List ℕ). ranged (span (start + i) ws)) from_more ∙ rw e refl

    -- it is stored, and what is left to store gives the whole
    pub word_stored : (gap whole : List ℕ) → sets gap i (line_from left right len i (len - i)) ≡ whole
        → sets (set gap i w) (i + 1) (line_from left right len (i + 1) (len - (i + 1))) ≡ whole
    word_stored gap whole rest =
        let next : i + 1 ≡ suc i = omega arith in
        ap (λ (k : ℕ). sets (set gap i w) k (line_from left right len (i + 1) (len - (i + 1)))) next
        ∙ sym (ap (λ (ws : List ℕ). sets gap i ws) from_more)
        ∙ rest

  module _ (i : ℕ) (h : len ≤ i) where
    none_left : line_from left right len i (len - i) ≡ []
    unfolding line_from
    none_left = let none : len - i ≡ 0 = omega arith in rw none refl

    pub words_in : (start : ℕ) → ranged (span (start + i) (line_from left right len i (len - i))) ≡ Ok 0
    unfolding ranged span
    words_in start = ap (λ (ws : List ℕ). ranged (span (start + i) ws)) none_left

    pub words_stored : (gap whole : List ℕ) → sets gap i (line_from left right len i (len - i)) ≡ whole → gap ≡ whole
    words_stored gap whole rest = sym (ap (λ (ws : List ℕ). sets gap i ws) none_left) ∙ rest

-- stored over a gap of its length, nothing else is left
pub line_over : (left right : Float) (gap : List ℕ) (len : ℕ) → len ≡ length gap
    → sets gap 0 (line_from left right len 0 (len - 0)) ≡ line_from left right len 0 len
line_over left right gap len e =
    ap (λ (k : ℕ). sets gap 0 (line_from left right len 0 k)) (sub-zero len)
    ∙ stored_over gap (line_from left right len 0 len) (length_from left right len 0 len ∙ e)

-- ---- In its place

module _ (samples : List ℕ) (start len : ℕ) where
  pub length_line : length (line samples start len) ≡ len
  unfolding line
  length_line = length_from (left_of samples start) (right_of samples (start + len)) len 0 len

  -- with its ends under other names
  module _ (left right : Float) (el : left ≡ left_of samples start) (er : right ≡ right_of samples (start + len)) where
    line_is : line_from left right len 0 len ≡ line samples start len
    unfolding line
    line_is = rw (el, er) refl

    pub line_ranged : (a : Answer) → a ≡ ranged (span start (line_from left right len 0 len))
        → a ≡ ranged (span start (line samples start len))
    line_ranged a e = e ∙ ap (λ (ws : List ℕ). ranged (span start ws)) line_is

    -- the gap was lent to be written, and comes back
    pub line_back : (part : List ℕ) → start + len ≤ length samples
        → let k = length (take (start + len - start) (drop start samples)) in part ≡ line_from left right k 0 k
        → put_mid start (start + len - start) samples part ≡ sets samples start (line samples start len)
    line_back part h e =
        let words : part ≡ line samples start len =
        e ∙ ap (λ (k : ℕ). line_from left right k 0 k) (lent_count start len samples h) ∙ line_is in
        lent_back start len samples part h (ap length words ∙ length_line)
        ∙ ap (λ (ws : List ℕ). sets samples start ws) words

    -- the entry that was made before has kept the samples
    pub line_written : (now part : List ℕ) → now ≡ samples → start + len ≤ length samples
        → let k = length (take (start + len - start) (drop start now)) in part ≡ line_from left right k 0 k
        → put_mid start (start + len - start) now part ≡ sets samples start (line samples start len)
    line_written now part same h e = rw same (line_back part h (rw same at e))
