-- `dequantize_cosparse`: its formulas with the code's literals, an iteration place by place, the iterations one after the
-- other, and what is drawn. Assumes nothing.
use mathlib.Core.Path.{◌≡◌, refl, sym, ap, ◌∙◌}
use mathlib.Core.Bool.{Bool, true, false, not, ◌&&◌}
use mathlib.Core.List.{List}
use Prim.Native.Nat.{ℕ, zero, suc, ◌+◌, ◌-◌, ◌≤◌, ◌<◌, min}
use native.Mathlib.Omega.{arith}
use native.Mathlib.Nat.{sub-zero}
use borrow.Author.Tests.{lt-ltb, le-ltb, leb-true}
use lib.Dec.{leb, ltb}
use lib.ListN.{length, get_or, set, drop, length-set}
use lib.Seq.{sets}
use lib.Ieee.{Float, binary32, of_bits, to_bits, of_int, round, neg, is_nan, lt}
use Rattle.leaves.specs.Arithmetic.{◌+₃₂◌, ◌-₃₂◌, ◌*₃₂◌, ◌/₃₂◌, nought, near, float, count}
use Rattle.leaves.specs.Floats.{magnitude, held}
use Rattle.leaves.proofs.Parts.{take-sets, drop-sets, part_of_sets}
use Rattle.recording.specs.Recording.{State, called}
use Rattle.recording.specs.Marks.{dequantize}
use Rattle.std.specs.Prelude.{if◌then◌else◌}
use Rattle.leaves.proofs.Choice.{picks, both_hold}
use Rattle.redraw.specs.Whole.{Drawn, drawn, untouched, sample, whole_plan}
use Rattle.redraw.specs.Inner.{words_in, flags_in, rest_of, drawn_in, Holds, Room}
use Rattle.redraw.proofs.Workspace.{store_words, store_behind, flag_there, flags_behind, rest_behind, words_count, holds_then}
use Rattle.dequant.specs.Dequant.{linear, cubic, cubic_weight, candidate, local_strength, target, sparse_at, sparse_pass}
use Rattle.dequant.specs.Dequant.{sparse_passes, step_of, strength_of, inner, acts, most_iterations, cosparse, cosparse_plan, cosparse_repair}
use Rattle.leaves.proofs.Literals.{one_word, half_word, two_word}

-- ---- The formulas

-- the code's literals
four : of_bits binary32 0x4080_0000 ≡ count 4
unfolding of_bits count of_int
four = refl

six : of_bits binary32 0x40c0_0000 ≡ count 6
unfolding of_bits count of_int
six = refl

sixteen : of_bits binary32 0x4180_0000 ≡ count 16
unfolding of_bits count of_int
sixteen = refl

thirty_two : of_bits binary32 0x4200_0000 ≡ count 32
unfolding of_bits count of_int
thirty_two = refl

one_tenth : of_bits binary32 0x3dcc_cccd ≡ near binary32 1 10
unfolding of_bits near round
one_tenth = refl

-- each with what its callees gave under other names
pub weight_is : (a b c d bend r : Float)
    → bend ≡ magnitude (d -₃₂ of_bits binary32 0x4000_0000 *₃₂ c +₃₂ of_bits binary32 0x4000_0000 *₃₂ b -₃₂ a)
    → r ≡ held (of_bits binary32 0x3dcc_cccd) (of_bits binary32 0x3f80_0000)
    (of_bits binary32 0x3f80_0000 /₃₂ (of_bits binary32 0x3f80_0000 +₃₂ of_bits binary32 0x4200_0000 *₃₂ bend))
    → r ≡ cubic_weight a b c d
unfolding cubic_weight
weight_is a b c d bend r eb er = er ∙ rw (eb, one_word, two_word, thirty_two, one_tenth) refl

pub candidate_is : (a b c d weight : Float) → weight ≡ cubic_weight a b c d
    → ((b +₃₂ c) *₃₂ of_bits binary32 0x3f00_0000
    +₃₂ (neg a +₃₂ of_bits binary32 0x4080_0000 *₃₂ b +₃₂ of_bits binary32 0x4080_0000 *₃₂ c -₃₂ d) /₃₂ of_bits binary32 0x40c0_0000 *₃₂ weight)
    /₃₂ (of_bits binary32 0x3f80_0000 +₃₂ weight) ≡ candidate a b c d
unfolding candidate linear cubic
candidate_is a b c d weight e = rw (e, half_word, four, six, one_word) refl

pub local_is : (strength b c rise : Float) → rise ≡ magnitude (c -₃₂ b)
    → strength
    *₃₂ (of_bits binary32 0x3f00_0000 +₃₂ of_bits binary32 0x3f00_0000 /₃₂ (of_bits binary32 0x3f80_0000 +₃₂ of_bits binary32 0x4180_0000 *₃₂ rise))
    ≡ local_strength strength b c
unfolding local_strength
local_is strength b c rise e = rw (e, half_word, one_word, sixteen) refl

-- ---- An iteration

-- what is read behind the words is the snapshot's
there : (w : List ℕ) (n i at : ℕ) (x : Float) → at ≡ n + i → i < n → x ≡ of_bits binary32 (get_or w at 0)
    → x ≡ sample (flags_in n w) i
unfolding float
there w n i at x ea h e =
    e ∙ ap (λ (k : ℕ). of_bits binary32 (get_or w k 0)) ea ∙ sym (ap (λ (v : ℕ). of_bits binary32 v) (flag_there n i w h))

-- the word of a place, from the five floats that are read
module _ (w : List ℕ) (n i : ℕ) (low : 2 ≤ i) (high : i + 2 < n) (step strength a b x c d pred goal local : Float) where
  pub sparse_is : (v : ℕ) → b ≡ of_bits binary32 (get_or w (n + i - 1) 0) → x ≡ of_bits binary32 (get_or w (n + i) 0)
      → c ≡ of_bits binary32 (get_or w (n + i + 1) 0) → a ≡ of_bits binary32 (get_or w (n + i - 2) 0)
      → d ≡ of_bits binary32 (get_or w (n + i + 2) 0)
      → pred ≡ candidate a b c d → goal ≡ target step x pred → local ≡ local_strength strength b c
      → v ≡ to_bits binary32 (x +₃₂ local *₃₂ (goal -₃₂ x)) → v ≡ to_bits binary32 (sparse_at step strength (flags_in n w) i)
  unfolding sparse_at
  sparse_is v eb ex ec ea ed ep eg el ev =
      let b' = there w n (i - 1) (n + i - 1) b (omega arith) (omega arith) eb in
      let x' = there w n i (n + i) x refl (omega arith) ex in
      let c' = there w n (i + 1) (n + i + 1) c (omega arith) (omega arith) ec in
      let a' = there w n (i - 2) (n + i - 2) a (omega arith) (omega arith) ea in
      let d' = there w n (i + 2) (n + i + 2) d (omega arith) (omega arith) ed in
      rw (← a', ← b', ← x', ← c', ← d', ← ep, ← eg, ← el) ev

-- all is left
pub sparse_from : (step strength : Float) (n : ℕ) (src out : List ℕ)
    → sparse_pass step strength src 2 (n - 2 - 2) out ≡ sparse_pass step strength src 2 (n - 4) out
sparse_from step strength n src out =
    let inner : n - 2 - 2 ≡ n - 4 = omega arith in
    ap (λ (k : ℕ). sparse_pass step strength src 2 k out) inner

-- a turn of an iteration: a word is stored, and what is left gives the whole
pub sparse_more : (step strength : Float) (n i v : ℕ) (w w₀ whole : List ℕ) → i < n - 2 → drop n w ≡ drop n w₀
    → v ≡ to_bits binary32 (sparse_at step strength (flags_in n w) i)
    → sparse_pass step strength (flags_in n w₀) i (n - 2 - i) (words_in n w) ≡ whole
    → sparse_pass step strength (flags_in n w₀) (i + 1) (n - 2 - (i + 1)) (words_in n (set w i v)) ≡ whole
unfolding sparse_pass
sparse_more step strength n i v w w₀ whole h same ev rest =
    let left : n - 2 - i ≡ suc (n - 2 - (i + 1)) = omega arith in
    let word : v ≡ to_bits binary32 (sparse_at step strength (flags_in n w₀) i) =
    ev ∙ ap (λ (l : List ℕ). to_bits binary32 (sparse_at step strength l i)) (flags_behind n w w₀ same) in
    rw (store_words n i v w (omega arith), word)
    (sym (ap (λ (k : ℕ). sparse_pass step strength (flags_in n w₀) i k (words_in n w)) left) ∙ rest)

-- and nothing behind the words changes
pub behind_more : (n i v : ℕ) (w w₀ : List ℕ) → i < n - 2 → drop n w ≡ drop n w₀ → drop n (set w i v) ≡ drop n w₀
behind_more n i v w w₀ h same = store_behind n i v w (omega arith) ∙ same

-- nothing is left
pub sparse_all : (step strength : Float) (n i : ℕ) (src out whole : List ℕ) → n - 2 ≤ i
    → sparse_pass step strength src i (n - 2 - i) out ≡ whole → out ≡ whole
unfolding sparse_pass
sparse_all step strength n i src out whole h rest =
    let none : n - 2 - i ≡ 0 = omega arith in
    sym (ap (λ (k : ℕ). sparse_pass step strength src i k out) none) ∙ rest

-- ---- The iterations

-- all are left
pub passes_from : (step strength : Float) (most : ℕ) (src : List ℕ)
    → sparse_passes step strength (most - 0) src ≡ sparse_passes step strength most src
passes_from step strength most src = ap (λ (k : ℕ). sparse_passes step strength k src) (sub-zero most)

-- one more: v is w with its snapshot, and u what the iteration left
module _ (n : ℕ) (w v u : List ℕ) (room : Room n w) (taken : v ≡ sets w n (words_in n w)) where
  kept_words : words_in n v ≡ words_in n w
  kept_words = ap (λ (l : List ℕ). words_in n l) taken ∙ take-sets w (words_in n w) n n (omega arith)

  snapshot_there : flags_in n v ≡ words_in n w
  snapshot_there =
      ap (λ (l : List ℕ). flags_in n l) taken ∙ part_of_sets w (words_in n w) n n (words_count n w room) (omega (arith, room.enough))

  pub passes_more : (step strength : Float) (most k : ℕ) (whole : List ℕ) → k < most
      → words_in n u ≡ sparse_pass step strength (flags_in n v) 2 (n - 4) (words_in n v)
      → sparse_passes step strength (most - k) (words_in n w) ≡ whole
      → sparse_passes step strength (most - (k + 1)) (words_in n u) ≡ whole
  unfolding sparse_passes
  passes_more step strength most k whole h e rest =
      let src = words_in n w in
      let left : most - k ≡ suc (most - (k + 1)) = omega arith in
      let pass : words_in n u ≡ sparse_pass step strength src 2 (length src - 4) src =
      e ∙ ap (λ (l : List ℕ). sparse_pass step strength l 2 (n - 4) (words_in n v)) snapshot_there
      ∙ ap (λ (l : List ℕ). sparse_pass step strength src 2 (n - 4) l) kept_words
      ∙ sym (ap (λ (m : ℕ). sparse_pass step strength src 2 (m - 4) src) (words_count n w room)) in
      ap (λ (l : List ℕ). sparse_passes step strength (most - (k + 1)) l) pass
      ∙ sym (ap (λ (m : ℕ). sparse_passes step strength m src) left)
      ∙ rest

  -- what lies beyond the snapshot stays
  pub passes_keep : (w₀ : List ℕ) → drop n u ≡ drop n v → rest_of n w ≡ rest_of n w₀ → rest_of n u ≡ rest_of n w₀
  passes_keep w₀ e rest =
      let many : length (words_in n w) ≡ n = words_count n w room in
      rest_behind n u v e ∙ ap (λ (l : List ℕ). rest_of n l) taken ∙ drop-sets w (words_in n w) n (n + n) (omega arith) ∙ rest

-- none is left
pub passes_all : (step strength : Float) (most k : ℕ) (src whole : List ℕ) → most ≤ k
    → sparse_passes step strength (most - k) src ≡ whole → src ≡ whole
unfolding sparse_passes
passes_all step strength most k src whole h rest =
    let none : most - k ≡ 0 = omega arith in
    sym (ap (λ (m : ℕ). sparse_passes step strength m src) none) ∙ rest

-- ---- What is drawn

-- the rule acts on at least five samples
pub acts_five : (strength : Float) (n : ℕ) → acts strength 5 n ≡ true → 5 ≤ n
unfolding acts
acts_five strength n h = leb-true 5 n (both_hold (leb 5 n) (lt nought strength) h).0

-- and for at least one iteration
pub none_run : (k : ℕ) → k ≡ 0 → ltb 0 k ≡ false
none_run k e = le-ltb 0 k (omega arith)

pub some_run : (k : ℕ) → (k ≡ 0 → ⊥) → ltb 0 k ≡ true
some_run k e = lt-ltb 0 k (omega arith)

-- by what its two tests say, b of the strength and c of the iterations
module _ (bits iterations n : ℕ) (strength : Float) (w : List ℕ) (room : Room n w) (b c : Bool)
    (reached : acts (strength_of strength) 5 n ≡ b) (some : ltb 0 iterations ≡ c) where
  abbrev src : List ℕ
  src = words_in n w

  cosparse_by : (if b && c then drawn (sparse_passes (step_of bits) (strength_of strength) (min iterations most_iterations) src) (inner 2 n)
      else untouched src)
      ≡ cosparse bits strength iterations src
  unfolding cosparse
  cosparse_by = rw (words_count n w room, reached, some) refl

  -- nothing is done
  pub drawn_not : b && c ≡ false → drawn_in n w ≡ untouched src → Holds n (cosparse bits strength iterations src) w w
  drawn_not none laid = record { holds = laid ∙ (rw none at cosparse_by); keeps = refl }

  -- the iterations run, and the inner places are named
  pub drawn_so : b && c ≡ true → (step held : Float) (many : ℕ) (v u : List ℕ) → step ≡ step_of bits → held ≡ strength_of strength
      → many ≡ min iterations most_iterations → words_in n v ≡ sparse_passes step held many src → rest_of n v ≡ rest_of n w
      → Holds n (drawn (words_in n v) (inner 2 n)) v u → Holds n (cosparse bits strength iterations src) w u
  drawn_so all step held many v u es eh em ew rest done =
      let words : words_in n v ≡ sparse_passes (step_of bits) (strength_of strength) (min iterations most_iterations) src = rw (← es, ← eh, ← em) ew in
      holds_then n (cosparse bits strength iterations src) w v u rest
      record { holds = done.holds ∙ ap (λ (l : List ℕ). drawn l (inner 2 n)) words ∙ (rw all at cosparse_by); keeps = done.keeps }

-- ---- The call

-- its whole rule, with the code's test of its strength
pub cosparse_is : (bits : ℕ) (strength : Float) (iterations room : ℕ) (s : State) (b : Bool) → b ≡ is_nan strength
    → called (whole_plan (not b) room dequantize (cosparse bits strength iterations)) s ≡ cosparse_repair bits strength iterations room s
unfolding cosparse_repair cosparse_plan
cosparse_is bits strength iterations room s b h = rw h refl

-- ---- How many words there are

length_pass : (step strength : Float) (src : List ℕ) (i left : ℕ) (out : List ℕ)
    → length (sparse_pass step strength src i left out) ≡ length out
unfolding sparse_pass
length_pass step strength src i zero out = refl
length_pass step strength src i (suc left) out =
    length_pass step strength src (i + 1) left (set out i (to_bits binary32 (sparse_at step strength src i))) ∙ length-set out i _

length_passes : (step strength : Float) (k : ℕ) (src : List ℕ) → length (sparse_passes step strength k src) ≡ length src
unfolding sparse_passes
length_passes step strength zero src = refl
length_passes step strength (suc k) src =
    length_passes step strength k (sparse_pass step strength src 2 (length src - 4) src)
    ∙ length_pass step strength src 2 (length src - 4) src

pub length_cosparse : (bits : ℕ) (strength : Float) (iterations : ℕ) (samples : List ℕ)
    → length (cosparse bits strength iterations samples).words ≡ length samples
unfolding cosparse
length_cosparse bits strength iterations samples =
    picks (λ (d : Drawn). length d.words ≡ length samples) (acts (strength_of strength) 5 (length samples) && ltb 0 iterations) _ _
    (length_passes (step_of bits) (strength_of strength) (min iterations most_iterations) samples) refl
