-- The rules of cubic declip as the code follows them: the test of a threshold, a word of the curve, a fill place by place,
-- one run's bridge, all runs one after the other, and how the call ends. Assumes nought_word.
use mathlib.Core.Path.{◌≡◌, refl, sym, ap, subst, ◌∙◌}
use mathlib.Core.Bool.{Bool, true, false, ◌&&◌, false≢true, and-false}
use mathlib.Core.List.{List}
use Prim.Native.Nat.{ℕ, suc, ◌+◌, ◌-◌, ◌≤◌, ◌<◌, min}
use native.Mathlib.Omega.{arith}
use native.Mathlib.Nat.{sub-zero}
use borrow.Author.Tests.{lt-ltb, le-ltb}
use lib.ListN.{length, get_or, set}
use lib.Ieee.{Float, nan, inf, fin, binary32, of_bits, to_bits, lt, le}
use lib.Ieee.Scale.{finite}
use Rattle.leaves.specs.Arithmetic.{◌+₃₂◌, ◌-₃₂◌, ◌*₃₂◌, ◌/₃₂◌, nought, float, count}
use Rattle.leaves.specs.Floats.{magnitude}
use Rattle.leaves.proofs.Literals.{nought_word, one_word, two_word, three_word, unbounded, plus_infinity}
use Rattle.recording.specs.Recording.{State, called}
use Rattle.recording.specs.Marks.{cubic_declip}
use Rattle.recording.specs.Inner.{flags}
use Rattle.recording.specs.Runs.{begins, run_length}
use Rattle.redraw.specs.Whole.{Drawn, drawn, sample, untouched, whole_plan}
use Rattle.redraw.specs.Runs.{over_runs}
use Rattle.redraw.specs.Inner.{words_in, flags_in, rest_of, drawn_in, Holds}
use Rattle.redraw.proofs.Workspace.{store_words, store_behind, word_there, flag_words, name_flag, flags_behind, store_rest}
use Rattle.redraw.proofs.Runs.{over_one, over_none, over_all}
use Rattle.declip.specs.Declip.{allowed, clipped, clipped_at, to, cubic_at, cubic_from, cubic_fill, bridged, declipped, declip_plan, declip_repair}

-- ---- The threshold

-- above 0, all but plus infinity is finite
above_nought : (x : Float) → lt nought x ≡ true → lt x (inf false) ≡ allowed x
unfolding lt
above_nought nan h = refl
above_nought (inf true) h = absurd (false≢true h)
above_nought (inf false) h = refl
above_nought (fin s m e) h = sym h

pub threshold_above : (x : Float) → lt (of_bits binary32 0) x ≡ true → lt x unbounded ≡ allowed x
threshold_above x h = ap (λ (y : Float). lt x y) plus_infinity ∙ above_nought x (sym (ap (λ (y : Float). lt y x) nought_word) ∙ h)

pub threshold_not_above : (x : Float) → lt (of_bits binary32 0) x ≡ false → false ≡ allowed x
threshold_not_above x h = sym (ap (λ (b : Bool). finite x && b) (sym (ap (λ (y : Float). lt y x) nought_word) ∙ h) ∙ and-false (finite x))

-- ---- A clipped sample

pub clipped_word : (threshold x y : Float) (w : ℕ) → x ≡ of_bits binary32 w → y ≡ magnitude x → le threshold y ≡ clipped threshold w
unfolding clipped float
clipped_word threshold x y w ex ey = rw (ey, ex) refl

-- ---- A word of the curve

-- the rule's sum, with its constants and counts under other names
abbrev curve : Float → Float → Float → Float → Float → Float → Float → Float
curve c1 c2 c3 y0 y1 p q =
    let t = p /₃₂ q in
    let t2 = t *₃₂ t in
    let t3 = t2 *₃₂ t in
    y0 *₃₂ (c1 -₃₂ c3 *₃₂ t2 +₃₂ c2 *₃₂ t3) +₃₂ y1 *₃₂ (c3 *₃₂ t2 -₃₂ c2 *₃₂ t3)

pub curve_word : (y0 y1 p q : Float) (a z i w : ℕ) → p ≡ count (i - a) → q ≡ count (z - a)
    → w ≡ to_bits binary32 (curve (of_bits binary32 1065353216) (of_bits binary32 1073741824) (of_bits binary32 1077936128) y0 y1 p q)
    → w ≡ to_bits binary32 (cubic_at y0 y1 a z i)
unfolding cubic_at
curve_word y0 y1 p q a z i w ep eq e = e ∙ rw (ep, eq, one_word, two_word, three_word) refl

-- ---- A fill

-- its ends, read from the workspace
pub fill_begins : (n a z : ℕ) (w : List ℕ) (y0 y1 : Float) → a < z → z < n
    → y0 ≡ of_bits binary32 (get_or w a 0) → y1 ≡ of_bits binary32 (get_or w z 0)
    → cubic_from y0 y1 a z (a + 1) (z - (a + 1)) (drawn_in n w) ≡ cubic_fill a z (drawn_in n w)
unfolding cubic_fill float
fill_begins n a z w y0 y1 h k e0 e1 =
    let left : z - (a + 1) ≡ z - a - 1 = omega arith in
    let there0 : y0 ≡ sample (words_in n w) a = e0 ∙ ap (of_bits binary32) (sym (word_there n a 0 w (omega arith))) in
    let there1 : y1 ≡ sample (words_in n w) z = e1 ∙ ap (of_bits binary32) (sym (word_there n z 0 w k)) in
    ap (λ (y : Float). cubic_from y y1 a z (a + 1) (z - (a + 1)) (drawn_in n w)) there0
    ∙ ap (λ (y : Float). cubic_from (sample (words_in n w) a) y a z (a + 1) (z - (a + 1)) (drawn_in n w)) there1
    ∙ ap (λ (k : ℕ). cubic_from (sample (words_in n w) a) (sample (words_in n w) z) a z (a + 1) k (drawn_in n w)) left

-- one place's word and its flag
named : (n i x : ℕ) (w : List ℕ) → i < n
    → drawn_in n (set (set w i x) (n + i) 1) ≡ drawn (set (words_in n w) i x) (set (flags (flags_in n w)) i true)
named n i x w h =
    let words = flag_words n i (set w i x) h 1 ∙ store_words n i x w h in
    let flagged = name_flag n i (set w i x) h true
    ∙ ap (λ (l : List ℕ). set (flags l) i true) (flags_behind n (set w i x) w (store_behind n i x w h)) in
    ap (λ (ws : List ℕ). drawn ws (flags (flags_in n (set (set w i x) (n + i) 1)))) words
    ∙ ap (λ (bs : List Bool). drawn (set (words_in n w) i x) bs) flagged

-- what lies beyond both
pub named_rest : (n z i x : ℕ) (w w₀ : List ℕ) → i < z → z < n → rest_of n w ≡ rest_of n w₀
    → rest_of n (set (set w i x) (n + i) 1) ≡ rest_of n w₀
named_rest n z i x w w₀ h k e = store_rest n (n + i) 1 (set w i x) (omega arith) ∙ store_rest n i x w (omega arith) ∙ e

module _ (y0 y1 : Float) (a z : ℕ) where
  one_place : (i k : ℕ) (d : Drawn) → cubic_from y0 y1 a z i (suc k) d
      ≡ cubic_from y0 y1 a z (i + 1) k (drawn (set d.words i (to_bits binary32 (cubic_at y0 y1 a z i))) (set d.named i true))
  unfolding cubic_from
  one_place i k d = refl

  pub fill_more : (n i x : ℕ) (w : List ℕ) (whole : Drawn) → i < z → z < n → x ≡ to_bits binary32 (cubic_at y0 y1 a z i)
      → cubic_from y0 y1 a z i (z - i) (drawn_in n w) ≡ whole
      → cubic_from y0 y1 a z (i + 1) (z - (i + 1)) (drawn_in n (set (set w i x) (n + i) 1)) ≡ whole
  fill_more n i x w whole h k e rest =
      let left : z - i ≡ suc (z - (i + 1)) = omega arith in
      ap (cubic_from y0 y1 a z (i + 1) (z - (i + 1))) (named n i x w (omega arith))
      ∙ ap (λ (v : ℕ). cubic_from y0 y1 a z (i + 1) (z - (i + 1)) (drawn (set (words_in n w) i v) (set (flags (flags_in n w)) i true))) e
      ∙ sym (ap (λ (k : ℕ). cubic_from y0 y1 a z i k (drawn_in n w)) left ∙ one_place i (z - (i + 1)) (drawn_in n w))
      ∙ rest

  pub fill_ends : (i : ℕ) (d whole : Drawn) → z ≤ i → cubic_from y0 y1 a z i (z - i) d ≡ whole → d ≡ whole
  unfolding cubic_from
  fill_ends i d whole h rest =
      let left : z - i ≡ 0 = omega arith in
      sym (ap (λ (k : ℕ). cubic_from y0 y1 a z i k d) left) ∙ rest

-- ---- A run's bridge, with its ends under other names

module _ (n s e m a z : ℕ) (w : List ℕ) (ea : a ≡ s - 4) (em : m ≡ min e (n - 1)) (ez : z ≡ min (m + 4) (n - 1)) where
  ends_at : z ≡ to n e
  ends_at = ez ∙ ap (λ (k : ℕ). min (k + 4) (n - 1)) em

  pub bridge_long : (v : List ℕ) → a + 4 < z → Holds n (cubic_fill a z (drawn_in n w)) w v → Holds n (bridged n s e (drawn_in n w)) w v
  unfolding bridged
  bridge_long v h held = rw (← ea, ← ends_at, lt-ltb _ _ h) held

  pub bridge_short : z ≤ a + 4 → Holds n (bridged n s e (drawn_in n w)) w w
  unfolding bridged
  bridge_short h = record { holds = rw (← ea, ← ends_at, le-ltb _ _ h) refl; keeps = refl }

-- ---- All runs, left to right

-- how far it has come at place i: the runs from there on give the whole, and beyond the 2n words all is as it was
pub record Going (threshold : Float) (samples w₀ : List ℕ) (i : ℕ) (w : List ℕ) : Type 0 where
  pub count : length w ≡ length w₀
  pub keeps : rest_of (length samples) w ≡ rest_of (length samples) w₀
  pub rest : over_runs (clipped_at threshold samples) (bridged (length samples)) i (length samples - i) (drawn_in (length samples) w)
      ≡ declipped threshold samples

module _ (threshold : Float) (samples : List ℕ) where
  abbrev n : ℕ
  n = length samples

  abbrev test : ℕ → Bool
  test = clipped_at threshold samples

  pub runs_begin : (w : List ℕ) → drawn_in n w ≡ untouched samples → Going threshold samples w 0 w
  unfolding declipped
  runs_begin w e =
      let all = ap (λ (k : ℕ). over_runs test (bridged n) 0 k (untouched samples)) (sub-zero n) in
      record { count = refl; keeps = refl; rest = ap (over_runs test (bridged n) 0 (n - 0)) e ∙ all }

  module _ (w₀ w : List ℕ) (i : ℕ) (h : i < n) (b : Bool) (eb : b ≡ begins test i) (g : Going threshold samples w₀ i w) where
    -- a run begins at place i, and is bridged
    pub run_bridged : (e : ℕ) (v u : List ℕ) → b ≡ true → e ≡ i + run_length test i (n - i) → Holds n (bridged n i e (drawn_in n w)) w v
        → length v ≡ length w → u ≡ v → Going threshold samples w₀ (i + 1) u
    run_bridged e v u t ends held count eu =
        let whole = declipped threshold samples in
        let next = over_one test (bridged n) i n e (drawn_in n w) (drawn_in n v) whole h (sym eb ∙ t) ends held.holds g.rest in
        subst (Going threshold samples w₀ (i + 1)) (sym eu)
        (record { count = count ∙ g.count; keeps = held.keeps ∙ g.keeps; rest = next })

    -- none does
    pub run_passed : (u : List ℕ) → b ≡ false → u ≡ w → Going threshold samples w₀ (i + 1) u
    run_passed u f eu =
        let next = over_none test (bridged n) i n (drawn_in n w) (declipped threshold samples) h (sym eb ∙ f) g.rest in
        subst (Going threshold samples w₀ (i + 1)) (sym eu) (record { count = g.count; keeps = g.keeps; rest = next })

  pub runs_end : (w₀ w : List ℕ) (i : ℕ) → n ≤ i → Going threshold samples w₀ i w → Holds n (declipped threshold samples) w₀ w
  runs_end w₀ w i h g =
      record { holds = over_all test (bridged n) i n (drawn_in n w) (declipped threshold samples) h g.rest; keeps = g.keeps }

-- ---- The call

-- its whole rule, with the test of its threshold under another name
pub declip_is : (threshold : Float) (b : Bool) (room : ℕ) (s : State) → b ≡ allowed threshold
    → called (whole_plan b room cubic_declip (declipped threshold)) s ≡ declip_repair threshold room s
unfolding declip_repair declip_plan
declip_is threshold b room s e = ap (λ (x : Bool). called (whole_plan x room cubic_declip (declipped threshold)) s) e
