-- The two passes of `dequantize`, place by place, and what they come to. Assumes nothing.
use mathlib.Core.Path.{◌≡◌, refl, sym, ap, ◌∙◌}
use mathlib.Core.Bool.{Bool, true, false, not}
use mathlib.Core.List.{List}
use Prim.Native.Nat.{ℕ, suc, ◌+◌, ◌-◌, ◌≤◌, ◌<◌}
use native.Mathlib.Omega.{arith}
use borrow.Author.Tests.{le-leb, lt-leb, leb-true, not-true, not-false}
use lib.Dec.{leb}
use lib.ListN.{length, get_or, set, drop}
use lib.Seq.{sets}
use lib.Ieee.{Float, binary32, of_bits, to_bits, lt, is_nan, round}
use Rattle.leaves.specs.Arithmetic.{◌+₃₂◌, ◌-₃₂◌, ◌*₃₂◌, near, float}
use Rattle.recording.specs.Recording.{State, called}
use Rattle.recording.specs.Marks as marks
use Rattle.redraw.specs.Whole.{sample, drawn, untouched, whole_plan}
use Rattle.redraw.specs.Inner.{words_in, flags_in, rest_of, drawn_in, Holds, Room}
use Rattle.redraw.proofs.Workspace.{store_words, store_behind, word_there, flags_behind, rest_behind, words_count}
use Rattle.dequant.specs.Dequant.{strength_of, step_of, target, first_at, first_pass, quarter, second_at, second_pass, wide, widened}
use Rattle.dequant.specs.Dequant.{acts, inner, dequantized, dequantize_plan, dequantize_repair}
use Rattle.leaves.proofs.Literals.{half_word}
use Rattle.leaves.proofs.Choice.{both_hold}
use Rattle.dequant.proofs.lattice.Laws.{snapped_words, snapped_flags, snapped_rest, snapped_there}

-- ---- The code's literals

quarter_word : of_bits binary32 1048576000 ≡ quarter
unfolding of_bits
quarter_word = refl

three_tenths_word : of_bits binary32 1050253722 ≡ near binary32 3 10
unfolding of_bits near round
three_tenths_word = refl

-- ---- Whether there is a second pass

module _ (strength : Float) (n : ℕ) where
  pub wide_short : n < 5 → false ≡ wide strength n
  unfolding wide
  wide_short h = rw (lt-leb 5 n h) refl

  pub wide_long : 5 ≤ n → lt (of_bits binary32 1050253722) strength ≡ wide strength n
  unfolding wide
  wide_long h = rw (le-leb 5 n h, three_tenths_word) refl

module _ (step strength : Float) where
  -- ---- The first pass

  -- its word, with what was read under other names
  pub first_is : (work : List ℕ) (i w : ℕ) (x a b t : Float) → x ≡ of_bits binary32 (get_or work i 0)
      → a ≡ of_bits binary32 (get_or work (i - 1) 0) → b ≡ of_bits binary32 (get_or work (i + 1) 0)
      → t ≡ target step x ((a +₃₂ b) *₃₂ of_bits binary32 1056964608)
      → w ≡ to_bits binary32 (x +₃₂ strength *₃₂ (t -₃₂ x)) → w ≡ to_bits binary32 (first_at step strength work i)
  unfolding first_at float
  first_is work i w x a b t ex ea eb et e = e ∙ rw (et, half_word, ex, ea, eb) refl

  -- among the words it is as in the whole workspace
  first_there : (n i : ℕ) (w : List ℕ) → 1 ≤ i → i < n - 1 → first_at step strength (words_in n w) i ≡ first_at step strength w i
  unfolding first_at
  first_there n i w least h =
      rw (word_there n i 0 w (omega arith), word_there n (i - 1) 0 w (omega arith), word_there n (i + 1) 0 w (omega arith)) refl

  -- from the start on, all of it is left
  pub first_none : (n : ℕ) (words : List ℕ) → first_pass step strength 1 (n - 1 - 1) words ≡ first_pass step strength 1 (n - 2) words
  first_none n words = let all : n - 1 - 1 ≡ n - 2 = omega arith in rw all refl

  module _ (n i : ℕ) (w whole : List ℕ) (rest : first_pass step strength i (n - 1 - i) (words_in n w) ≡ whole) where
    -- one place more, and what is left to do gives the whole
    pub first_more : (v : ℕ) → 1 ≤ i → i < n - 1 → v ≡ to_bits binary32 (first_at step strength w i)
        → first_pass step strength (i + 1) (n - 1 - (i + 1)) (words_in n (set w i v)) ≡ whole
    unfolding first_pass
    first_more v least h e =
        let more : n - 1 - i ≡ suc (n - 1 - (i + 1)) = omega arith in
        rw (store_words n i v w (omega arith), e, ← first_there n i w least h) (rw more at rest)

    pub first_all : n - 1 ≤ i → words_in n w ≡ whole
    unfolding first_pass
    first_all h = let none : n - 1 - i ≡ 0 = omega arith in rw none at rest

  -- ---- The second pass

  -- its word, with what was read under other names
  module _ (n i : ℕ) (w : List ℕ) (least : 2 ≤ i) (most : i + 2 < n) where
    pub second_is : (v : ℕ) (a b c d g t x : Float) → a ≡ of_bits binary32 (get_or w (n + i - 2) 0)
        → b ≡ of_bits binary32 (get_or w (n + i - 1) 0) → c ≡ of_bits binary32 (get_or w (n + i + 1) 0)
        → d ≡ of_bits binary32 (get_or w (n + i + 2) 0) → g ≡ of_bits binary32 (get_or w (n + i) 0)
        → t ≡ target step g ((a +₃₂ b +₃₂ c +₃₂ d) *₃₂ of_bits binary32 1048576000) → x ≡ of_bits binary32 (get_or w i 0)
        → v ≡ to_bits binary32 (x +₃₂ strength *₃₂ of_bits binary32 1056964608 *₃₂ (t -₃₂ x))
        → v ≡ to_bits binary32 (second_at step strength (flags_in n w) (sample (words_in n w) i) i)
    unfolding second_at float
    second_is v a b c d g t x ea eb ec ed eg et ex e =
        let two = snapped_there n (i - 2) (n + i - 2) w (omega arith) (omega arith) in
        let one = snapped_there n (i - 1) (n + i - 1) w (omega arith) (omega arith) in
        let here = snapped_there n i (n + i) w (omega arith) refl in
        let next = snapped_there n (i + 1) (n + i + 1) w (omega arith) (omega arith) in
        let last = snapped_there n (i + 2) (n + i + 2) w (omega arith) (omega arith) in
        e ∙ rw (et, half_word, quarter_word, two, one, here, next, last, word_there n i 0 w (omega arith), ea, eb, ec, ed, eg, ex) refl

  -- from the start on, all of it is left
  pub second_none : (n : ℕ) (src words : List ℕ)
      → second_pass step strength src 2 (n - 2 - 2) words ≡ second_pass step strength src 2 (n - 4) words
  second_none n src words = let all : n - 2 - 2 ≡ n - 4 = omega arith in rw all refl

  module _ (n i : ℕ) (w₀ w whole : List ℕ) (rest : second_pass step strength (flags_in n w₀) i (n - 2 - i) (words_in n w) ≡ whole) where
    -- one place more, and what is left to do gives the whole
    pub second_more : (v : ℕ) → i < n - 2 → drop n w ≡ drop n w₀
        → v ≡ to_bits binary32 (second_at step strength (flags_in n w) (sample (words_in n w) i) i)
        → second_pass step strength (flags_in n w₀) (i + 1) (n - 2 - (i + 1)) (words_in n (set w i v)) ≡ whole
    unfolding second_pass
    second_more v h same e =
        let more : n - 2 - i ≡ suc (n - 2 - (i + 1)) = omega arith in
        rw (store_words n i v w (omega arith), e, flags_behind n w w₀ same) (rw more at rest)

    pub second_all : n - 2 ≤ i → words_in n w ≡ whole
    unfolding second_pass
    second_all h = let none : n - 2 - i ≡ 0 = omega arith in rw none at rest

-- a store among the words leaves what stands behind them
pub behind_stays : (n i v : ℕ) (w₀ w : List ℕ) → i < n → drop n w ≡ drop n w₀ → drop n (set w i v) ≡ drop n w₀
behind_stays n i v w₀ w h same = store_behind n i v w h ∙ same

-- ---- Both, in the workspace

-- from the workspace w the second pass, where there is one, has made v
pub record Widens (n : ℕ) (step strength : Float) (w v : List ℕ) : Type 0 where
  pub words : words_in n v ≡ widened step strength (words_in n w)
  pub rest : rest_of n v ≡ rest_of n w
  pub count : length v ≡ length w

module _ (n : ℕ) (step strength : Float) (w v : List ℕ) (b : Bool) (test : b ≡ wide strength n) (room : Room n w) where
  -- the test, of as many samples as there are words
  size : length (words_in n w) ≡ n
  size = words_count n w room

  told : wide strength (length (words_in n w)) ≡ b
  told = ap (λ (k : ℕ). wide strength k) size ∙ sym test

  pub wide_not : b ≡ false → v ≡ w → Widens n step strength w v
  wide_not h e =
      record {
        words = ap (λ (l : List ℕ). words_in n l) e ∙ rw (told, h) refl;
        rest = ap (λ (l : List ℕ). rest_of n l) e;
        count = ap length e;
      }

  pub wide_so : (u t : List ℕ) → b ≡ true → u ≡ sets w n (words_in n w) → length u ≡ length w
      → (words_in n t ≡ second_pass step strength (flags_in n u) 2 (n - 4) (words_in n u)) × (drop n t ≡ drop n u)
      → length t ≡ length u → v ≡ t → Widens n step strength w v
  wide_so u t h snap count passed count' e =
      record {
        words =
            ap (λ (l : List ℕ). words_in n l) e ∙ passed.0
            ∙ rw (told, h, size, snapped_words n w u room snap, snapped_flags n w u room snap) refl;
        rest = ap (λ (l : List ℕ). rest_of n l) e ∙ rest_behind n t u passed.1 ∙ snapped_rest n w u room snap;
        count = ap length e ∙ count' ∙ count;
      }

-- what the test tells of the size
pub wide_size : (n : ℕ) (strength : Float) (b : Bool) → b ≡ wide strength n → b ≡ true → 5 ≤ n
unfolding wide
wide_size n strength b e h = leb-true 5 n (both_hold (leb 5 n) _ (sym e ∙ h)).0

module _ (n bits : ℕ) (strength h : Float) (w : List ℕ) (held : h ≡ strength_of strength) (room : Room n w)
    (b : Bool) (test : b ≡ acts h 3 n) where
  -- where nothing is done, the workspace holds what it held
  pub drawn_not : drawn_in n w ≡ untouched (words_in n w) → not b ≡ true → Holds n (dequantized bits strength (words_in n w)) w w
  unfolding dequantized
  drawn_not before k =
      let told : acts (strength_of strength) 3 (length (words_in n w)) ≡ false = rw (words_count n w room, ← held, ← test) (not-true b k) in
      record { holds = before ∙ rw told refl; keeps = refl }

  -- and else what both passes made of the words
  pub drawn_so : (step : Float) (u t v : List ℕ) → not b ≡ false → step ≡ step_of bits
      → (words_in n u ≡ first_pass step h 1 (n - 2) (words_in n w)) × (drop n u ≡ drop n w) → Widens n step h u t
      → Holds n (drawn (words_in n t) (inner 1 n)) t v → Holds n (dequantized bits strength (words_in n w)) w v
  unfolding dequantized
  drawn_so step u t v k es passed wider named =
      let told : acts (strength_of strength) 3 (length (words_in n w)) ≡ true = rw (words_count n w room, ← held, ← test) (not-false b k) in
      record {
        holds = named.holds ∙ rw (wider.words, passed.0, told, words_count n w room, held, es) refl;
        keeps = named.keeps ∙ wider.rest ∙ rest_behind n u w passed.1;
      }

-- ---- The call

-- its whole rule, with the code's test of its strength
pub dequantize_is : (bits : ℕ) (strength : Float) (room : ℕ) (s : State) (b : Bool) → b ≡ is_nan strength
    → called (whole_plan (not b) room marks.dequantize (dequantized bits strength)) s ≡ dequantize_repair bits strength room s
unfolding dequantize_repair dequantize_plan
dequantize_is bits strength room s b h = rw h refl
