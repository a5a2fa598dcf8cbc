-- How decrackle draws its words and flags in the workspace: each flagged run is rewritten, left to right, and what is left to
-- rewrite gives the whole. And how a call of it ends. Assumes nothing.
use mathlib.Core.Path.{◌≡◌, refl, sym, ap, subst, ◌∙◌}
use mathlib.Core.Bool.{Bool, true, false, not, true≢false}
use mathlib.Core.List.{List}
use mathlib.Core.Logic.{inl, inr}
use Prim.Native.Nat.{ℕ, zero, suc, ◌+◌, ◌-◌, ◌≤◌, ◌<◌}
use native.Mathlib.Omega.{arith}
use native.Mathlib.Nat.{sub-zero}
use borrow.Author.Tests.{lt-ltb, le-ltb}
use lib.Dec.{eqb}
use lib.ListN.{length, get_or, drop, length-map}
use lib.Ieee.{Float, is_nan}
use Rattle.recording.specs.Recording.{State, called}
use Rattle.recording.specs.Inner.{flags}
use Rattle.recording.specs.Runs.{begins, run_length}
use Rattle.recording.proofs.Runs.{begins_there, run_short}
use Rattle.redraw.specs.Whole.{Drawn, drawn, untouched, whole_plan}
use Rattle.redraw.specs.Runs.{over_runs}
use Rattle.redraw.specs.Inner.{words_in, flags_in, drawn_in, flagged_at, Holds, Room}
use Rattle.redraw.proofs.Workspace.{flagged_there, rest_behind, flags_behind, flags_count, room_stays}
use Rattle.redraw.proofs.Runs.{over_one, over_none, over_all}
use Rattle.decrackle.specs.declared.Start.{Start}
use Rattle.decrackle.specs.Decrackle.{flags_of, repair_hermite, smoothed, decrackled, mark_for, decrackle_plan, decrackle_repair}
use Rattle.decrackle.proofs.Ends.{ends_never_flagged}

-- ---- A run that begins behind the first place and does not reach the last

module _ (test : ℕ → Bool) (n i : ℕ) (h : i < n) (starts : begins test i ≡ true) where
  run_later : test 0 ≡ false → 1 ≤ i
  run_later none = go i (begins_there test i starts)
    where
      go : (k : ℕ) → test k ≡ true → 1 ≤ k
      go zero e = absurd (true≢false (sym e ∙ none))
      go (suc k) e = omega arith

  run_ends_within : test (n - 1) ≡ false → i + run_length test i (n - i) < n
  run_ends_within none =
      let last : i + (n - 1 - i) ≡ n - 1 = omega arith in
      omega (arith, h, run_short test i (n - i) (n - 1 - i) (ap test last ∙ none))

-- ---- The runs, rewritten one by one

-- the code's test of a flag
pub flag_read : (n k : ℕ) (w : List ℕ) (b : Bool) → k < n → b ≡ not (eqb (get_or w (n + k) 0) 0) → b ≡ flagged_at n w k
flag_read n k w b h e = e ∙ sym (flagged_there n k w h)

-- how far a loop has come at place i: the flags are as they were, and what is left to rewrite gives the whole
abbrev pub Smoothing : ℕ → List ℕ → ℕ → List ℕ → Type 0
Smoothing n w₀ i w =
    (i ≤ n) × (length w ≡ length w₀) × (drop n w ≡ drop n w₀)
    × (over_runs (flagged_at n w₀) repair_hermite i (n - i) (words_in n w) ≡ over_runs (flagged_at n w₀) repair_hermite 0 (n - 0) (words_in n w₀))

same_test : (n : ℕ) (w₀ w : List ℕ) → drop n w ≡ drop n w₀ → flagged_at n w ≡ flagged_at n w₀
same_test n w₀ w e = ap (λ (l : List ℕ). λ (i : ℕ). get_or (flags l) i false) (flags_behind n w w₀ e)

module _ (n : ℕ) (w₀ : List ℕ) (i : ℕ) (w : List ℕ) (there : Smoothing n w₀ i w) where
  pub smoothing_room : Room n w₀ → Room n w
  smoothing_room room = room_stays n w w₀ room there.1

  module _ (h : i < n) (b : Bool) (eb : b ≡ begins (flagged_at n w) i) where
    begins_so : (c : Bool) → b ≡ c → begins (flagged_at n w₀) i ≡ c
    begins_so c e = sym (ap (λ (t : ℕ → Bool). begins t i) (same_test n w₀ w there.2)) ∙ sym eb ∙ e

    -- no run begins here
    pub smooth_none : (next : List ℕ) → b ≡ false → next ≡ w → Smoothing n w₀ (i + 1) next
    smooth_none next e en =
        subst (λ (v : List ℕ). Smoothing n w₀ (i + 1) v) (sym en)
        (omega arith, there.1, there.2, over_none (flagged_at n w₀) repair_hermite i n _ _ h (begins_so false e) there.3)

    module _ (holds : b ≡ true) (end : ℕ) (ee : end ≡ i + run_length (flagged_at n w) i (n - i)) where
      ends_so : end ≡ i + run_length (flagged_at n w₀) i (n - i)
      ends_so = ee ∙ ap (λ (t : ℕ → Bool). i + run_length t i (n - i)) (same_test n w₀ w there.2)

      -- where the run lies
      pub run_inside : Room n w₀ → flagged_at n w₀ 0 ≡ false → flagged_at n w₀ (n - 1) ≡ false → Room n w × (1 ≤ i) × (i ≤ end) × (end < n)
      run_inside room first last =
          let within = run_ends_within (flagged_at n w₀) n i h (begins_so true holds) last in (
            smoothing_room room,
            run_later (flagged_at n w₀) n i h (begins_so true holds) first,
            omega (arith, ends_so),
            omega (arith, ends_so, within),
          )

      -- it is rewritten
      pub smooth_one : (v next : List ℕ) → length v ≡ length w
          → (words_in n v ≡ repair_hermite i end (words_in n w)) × (drop n v ≡ drop n w) → next ≡ v → Smoothing n w₀ (i + 1) next
      smooth_one v next count made en =
          subst (λ (x : List ℕ). Smoothing n w₀ (i + 1) x) (sym en) (
            omega arith,
            count ∙ there.1,
            made.1 ∙ there.2,
            over_one (flagged_at n w₀) repair_hermite i n end _ _ _ h (begins_so true holds) ends_so made.0 there.3,
          )

  -- no place is left
  pub smooth_all : Room n w₀ → n ≤ i → (words_in n w ≡ smoothed (flags (flags_in n w₀)) (words_in n w₀)) × (drop n w ≡ drop n w₀)
  unfolding smoothed
  smooth_all room h =
      let many : length (flags (flags_in n w₀)) ≡ n = length-map (flags_in n w₀) _ ∙ flags_count n w₀ room in
      let all : n - 0 ≡ length (flags (flags_in n w₀)) = sub-zero n ∙ sym many in (
        over_all (flagged_at n w₀) repair_hermite i n _ _ h there.3
            ∙ ap (λ (k : ℕ). over_runs (flagged_at n w₀) repair_hermite 0 k (words_in n w₀)) all,
        there.2,
      )

-- ---- All of it

-- a short recording stays as it was laid out
pub drawn_short : (start : Start) (sensitivity : Float) (samples w : List ℕ) → length samples < 8 → drawn_in (length samples) w ≡ untouched samples
    → Holds (length samples) (decrackled start sensitivity samples) w w
unfolding decrackled
drawn_short start sensitivity samples w h e = record { holds = e ∙ rw (lt-ltb _ _ h) refl; keeps = refl }

module _ (start : Start) (sensitivity : Float) (samples w v : List ℕ) (laid : drawn_in (length samples) w ≡ untouched samples)
    (flagging : Holds (length samples) (drawn (words_in (length samples) w) (flags_of start sensitivity samples)) w v) where
  abbrev n : ℕ
  n = length samples

  named : flags (flags_in n v) ≡ flags_of start sensitivity samples
  named = ap (λ (d : Drawn). d.named) flagging.holds

  words : words_in n v ≡ samples
  words = ap (λ (d : Drawn). d.words) flagging.holds ∙ ap (λ (d : Drawn). d.words) laid

  -- neither end is flagged
  pub first_clear : flagged_at n v 0 ≡ false
  first_clear = ap (λ (bs : List Bool). get_or bs 0 false) named ∙ ends_never_flagged start sensitivity samples 0 (inl refl)

  pub last_clear : 8 ≤ n → flagged_at n v (n - 1) ≡ false
  last_clear h = ap (λ (bs : List Bool). get_or bs (n - 1) false) named ∙ ends_never_flagged start sensitivity samples (n - 1) (inr (omega arith))

  -- what the flags and the runs make of the samples
  pub drawn_all : (u : List ℕ) → 8 ≤ n → (words_in n u ≡ smoothed (flags (flags_in n v)) (words_in n v)) × (drop n u ≡ drop n v)
      → Holds n (decrackled start sensitivity samples) w u
  unfolding decrackled
  drawn_all u h made =
      let flags-so : flags (flags_in n u) ≡ flags_of start sensitivity samples = ap flags (flags_behind n u v made.1) ∙ named in
      let words-so : words_in n u ≡ smoothed (flags_of start sensitivity samples) samples =
      made.0 ∙ ap (λ (bs : List Bool). smoothed bs (words_in n v)) named ∙ ap (smoothed (flags_of start sensitivity samples)) words in
      record {
        holds = ap (λ (l : List ℕ). drawn l (flags (flags_in n u))) words-so
            ∙ ap (λ (bs : List Bool). drawn (smoothed (flags_of start sensitivity samples) samples) bs) flags-so
            ∙ rw (le-ltb _ _ h) refl;
        keeps = rest_behind n u v made.1 ∙ flagging.keeps;
      }

-- ---- The call

-- its whole rule, with the code's test of its sensitivity, and the mark under another name
pub decrackle_is : (start : Start) (sensitivity : Float) (room mark : ℕ) (s : State) (b : Bool) → b ≡ is_nan sensitivity
    → mark ≡ mark_for start
    → called (whole_plan (not b) room mark (decrackled start sensitivity)) s ≡ decrackle_repair start sensitivity room s
unfolding decrackle_repair decrackle_plan
decrackle_is start sensitivity room mark s b h e = rw (h, e) refl
