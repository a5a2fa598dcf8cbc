-- What `project_gamma` makes of candidates in range, or NaN, from a recording in range is accepted: sample by sample, then of the whole
-- proposal, and then of the call. Assumes nothing.
use mathlib.Core.Path.{◌≡◌, refl, sym, ap, ◌∙◌, subst}
use mathlib.Core.Bool.{Bool, true, false, not, ◌&&◌, ◌||◌, false≢true}
use mathlib.Core.List.{List, [], ◌∷◌}
use mathlib.Core.Logic.{inl, inr}
use Prim.Native.Nat.{ℕ, suc, ◌+◌, ◌-◌, ◌*◌, ◌<◌, ◌≤◌, ◌^◌}
use native.Mathlib.Omega.{arith}
use lib.Dec.{T, eqb, lt→ltb}
use lib.ListN.{length}
use lib.Ieee.{Float, nan, inf, fin, binary32, up, down, neg, lt, le, is_nan, fits, to_bits}
use lib.Ieee.Bits.{is_true, of_bits-to_bits, of_bits-fits, to_bits-of_bits}
use lib.Ieee.Fits.{neg-fits}
use lib.Ieee.Positive.{positive, first_pos, between, le_trans_positive}
use lib.Ieee.Scale.{finite}
use borrow.Author.Tests.{ltb-true, eqb-true, eqb-false, eq-eqb, le-ltb}
use Rattle.std.specs.Prelude.{if◌then◌else◌}
use Rattle.leaves.specs.Arithmetic.{float}
use Rattle.leaves.specs.Floats.{magnitude, largest, larger, smaller, in_range}
use Rattle.leaves.proofs.Choice.{truth, both_hold, either, picks_by}
use Rattle.leaves.proofs.order.Laws.{both}
use Rattle.leaves.proofs.Comparing.{finite_number, not_lt_le, lt_not_le, le_itself, magnitude_nan}
use Rattle.leaves.proofs.Comparing.{above_beyond, below_beyond, above_not_below}
use Rattle.recording.specs.Recording.{State, Placed, change, readable, ranged, fitting, entered, carried, performed, entry_size}
use Rattle.recording.specs.Marks.{declip_proposed}
use Rattle.recording.specs.declared.Reason.TheVariants.{Proposal}
use Rattle.std.specs.Prelude.{Ok, Err}
use Rattle.declip.specs.Declip.{allowed, clipped}
use Rattle.proposed.specs.Proposed.{keeps_bits, answered_above, answered_below, answers, answered, taken, named, proposed_plan, proposed_repair}
use Rattle.proposed.specs.Gamma.{project_gamma, projected_word, projected, in_range_or_nan, Candidates, InRange}
use Rattle.proposed.specs.Consequences.{ProjectedIsTaken, ProjectedIsAccepted}
use Rattle.proposed.proofs.Consequences.{results_are_in_range}

-- ---- What it takes to answer a sample

-- a test that holds, as a type
holds : {b : Bool} → b ≡ true → T b
holds e = subst T (sym e) tt

-- one test implies another, as `not` and `||` say it
implies : (a b : Bool) → (a ≡ true → b ≡ true) → not a || b ≡ true
implies true b h = h refl
implies false b h = refl

-- the three tests, each as what it tells
answers_by : (t : Float) (w p : ℕ) → (clipped t w ≡ false → p ≡ w) → (le t (float w) ≡ true → in_range p && le t (float p) ≡ true)
    → (le (float w) (neg t) ≡ true → in_range p && le (float p) (neg t) ≡ true) → answers t w p ≡ true
answers_by t w p keeps above below =
    opened (kept (clipped t w) refl) (implies (le t (float w)) _ above) (implies (le (float w) (neg t)) _ below)
  where
    kept : (b : Bool) → clipped t w ≡ b → b || eqb p w ≡ true
    kept true e = refl
    kept false e = eq-eqb p w (keeps e)

    opened : keeps_bits t w p ≡ true → answered_above t w p ≡ true → answered_below t w p ≡ true → answers t w p ≡ true
    opened a b c = unfold answers in rw (a, b, c)

-- a sample is clipped by the magnitude of its float
clipped_is : (t : Float) (w : ℕ) → clipped t w ≡ le t (magnitude (float w))
unfolding clipped
clipped_is t w = refl

-- ---- A float in range, and the threshold

-- finite and of magnitude at most 65,536, of a float; a word in range is one whose float is so
abbrev within : Float → Bool
within x = finite x && le (magnitude x) largest

in_range_is : (w : ℕ) → in_range w ≡ within (float w)
unfolding in_range float
in_range_is w = refl

-- such a float is no NaN
within_number : (x : Float) → within x ≡ true → is_nan x ≡ false
within_number x h = finite_number x (both_hold (finite x) _ h).0

-- nor does its sign matter
within_neg : (x : Float) → within (neg x) ≡ within x
unfolding neg
within_neg nan = refl
within_neg (inf s) = refl
within_neg (fin s m e) = refl

-- an allowed threshold is finite and above zero
allowed_positive : (t : Float) → allowed t ≡ true → T (positive t)
unfolding lt
allowed_positive nan h = absurd (false≢true h)
allowed_positive (inf s) h = absurd (false≢true h)
allowed_positive (fin true n d) h = absurd (false≢true h)
allowed_positive (fin false n d) h = lt→ltb 0 n (first_pos n (up d) (let more = ltb-true (0 * down d) (n * up d * 1) h in omega arith))

-- what is so is its own magnitude
positive_magnitude : (x : Float) → T (positive x) → magnitude x ≡ x
positive_magnitude nan p = absurd p
positive_magnitude (inf s) p = absurd p
positive_magnitude (fin true m e) p = absurd p
positive_magnitude (fin false m e) p = refl

-- a threshold at or below the magnitude of a float in range is in range
threshold_within : (t x : Float) → allowed t ≡ true → le t (magnitude x) ≡ true → within x ≡ true → within t ≡ true
threshold_within t x ok h r =
    let p : T (positive t) = allowed_positive t ok in
    let most = holds (both_hold (finite x) _ r).1 in
    let q : T (positive (magnitude x)) = between t (magnitude x) largest p tt (holds h) most in
    let l : le t largest ≡ true = is_true _ (le_trans_positive t (magnitude x) largest p q tt (holds h) most) in
    rw ((both_hold (finite t) _ ok).0, positive_magnitude t p, l)

-- ---- The word of a float, and the float of a word

-- the float of the word of an f32
float_of : (x : Float) → T (fits binary32 x) → float (to_bits binary32 x) ≡ x
unfolding float
float_of x h = of_bits-to_bits binary32 x h

-- the float of any word is an f32
float_fits : (w : ℕ) → T (fits binary32 (float w))
unfolding float
float_fits w = of_bits-fits binary32 w

-- the word of the float of a word that is no NaN's
word_of : (w : ℕ) → w < 2 ^ 32 → is_nan (float w) ≡ false → to_bits binary32 (float w) ≡ w
unfolding float
word_of w h n = to_bits-of_bits binary32 w h (rw n tt)

-- ---- The larger or the smaller of a candidate and an end

-- what the end has, and the candidate too where it is a number and the test fails, the one that is chosen has
chosen : (Q : Float → Type 0) (a b : Float) (l : Bool) → Q b → (is_nan a ≡ false → l ≡ false → Q a)
    → Q (if is_nan a then b else if l then b else a)
chosen Q a b l p q = picks_by Q (is_nan a) b _ (λ e. p) (λ n. picks_by Q l b a (λ e. p) (q n))

-- so of the larger and of the smaller of the two
larger_by : (Q : Float → Type 0) (a b : Float) → Q b → (is_nan a ≡ false → lt a b ≡ false → Q a) → Q (larger a b)
unfolding larger
larger_by Q a b = chosen Q a b (lt a b)

smaller_by : (Q : Float → Type 0) (a b : Float) → Q b → (is_nan a ≡ false → lt b a ≡ false → Q a) → Q (smaller a b)
unfolding smaller
smaller_by Q a b = chosen Q a b (lt b a)

-- an f32 in range, on this side
record Fit (side : Float → Bool) (x : Float) : Type 0 where
  word : T (fits binary32 x)
  range : within x ≡ true
  beyond : side x ≡ true

-- its word answers a sample on that side
fit_answers : (side : Float → Bool) (x : Float) → Fit side x → in_range (to_bits binary32 x) && side (float (to_bits binary32 x)) ≡ true
fit_answers side x f = rw (in_range_is, float_of x f.word) (rw (f.range, f.beyond) refl)

-- a candidate that is no NaN is in range
candidate : (side : Float → Bool) (c : ℕ) → in_range_or_nan c ≡ true → is_nan (float c) ≡ false → side (float c) ≡ true → Fit side (float c)
unfolding in_range_or_nan
candidate side c h n b = record {
  word = float_fits c;
  range = elim (either (in_range c) _ h) [ inl r ↦ sym (in_range_is c) ∙ r | inr k ↦ both k n ];
  beyond = b;
}

-- `project_gamma`, as two tests
gamma_is : (t x y : Float)
    → project_gamma y x t ≡ (if lt (magnitude x) t then x else if le t x then larger y t else smaller y (neg t))
unfolding project_gamma
gamma_is t x y = refl

-- ---- The lists, one step

-- the first sample is answered, or the call is refused with its place
answered_cons : (t : Float) (i w p : ℕ) (ws ps : List ℕ)
    → answered t i (w ∷ ws) (p ∷ ps) ≡ (if answers t w p then answered t (i + 1) ws ps else Err (Proposal i))
unfolding answered
answered_cons t i w p ws ps = refl

-- the first word of the proposal is made of the first candidate and the first sample
projected_cons : (t : Float) (c w : ℕ) (cs ws : List ℕ) → projected t (c ∷ cs) (w ∷ ws) ≡ projected_word t c w ∷ projected t cs ws
unfolding projected
projected_cons t c w cs ws = refl

-- ---- One sample, at a threshold that is an f32 and allowed

module _ (t : Float) (f : fits binary32 t ≡ true) (ok : allowed t ≡ true) where
  -- the larger of a candidate and the threshold is at or above the threshold
  gamma_above : (c : ℕ) → in_range_or_nan c ≡ true → within t ≡ true → Fit (le t) (larger (float c) t)
  gamma_above c h r =
      let n = within_number t r in
      larger_by (Fit (le t)) (float c) t (record { word = holds f; range = r; beyond = le_itself t n })
      (λ k l. candidate (le t) c h k (not_lt_le (float c) t k n l))

  -- the smaller of a candidate and the negative threshold is at or below that
  gamma_below : (c : ℕ) → in_range_or_nan c ≡ true → within t ≡ true → Fit (λ x. le x (neg t)) (smaller (float c) (neg t))
  gamma_below c h r =
      let r' : within (neg t) ≡ true = within_neg t ∙ r in
      let n = within_number (neg t) r' in
      smaller_by (Fit (λ x. le x (neg t))) (float c) (neg t)
      (record { word = neg-fits binary32 t (holds f); range = r'; beyond = le_itself (neg t) n })
      (λ k l. candidate (λ x. le x (neg t)) c h k (not_lt_le (neg t) (float c) n k l))

  -- the threshold is no NaN
  number : is_nan t ≡ false
  number = finite_number t (both_hold (finite t) _ ok).0

  -- a sample in range, and a candidate for it
  module _ (c w : ℕ) (h : in_range_or_nan c ≡ true) (r : within (float w) ≡ true) where
    -- this float's word answers the sample
    abbrev Answers : Float → Type 0
    Answers x = answers t w (to_bits binary32 x) ≡ true

    -- under the threshold, the sample itself
    under : w < 2 ^ 32 → lt (magnitude (float w)) t ≡ true → Answers (float w)
    under small l =
        let x = float w in
        let n : le t (magnitude x) ≡ false = lt_not_le (magnitude x) t l in
        answers_by t w _ (λ e. word_of w small (within_number x r)) (λ e. both (above_beyond t x e) n) (λ e. both (below_beyond t x e) n)

    -- else it is clipped
    beyond_it : lt (magnitude (float w)) t ≡ false → le t (magnitude (float w)) ≡ true
    beyond_it l = not_lt_le (magnitude (float w)) t (magnitude_nan (float w) ∙ within_number (float w) r) number l

    -- above, the larger of the candidate and the threshold
    above : le t (magnitude (float w)) ≡ true → le t (float w) ≡ true → Answers (larger (float c) t)
    above b a =
        answers_by t w _ (λ e. both (clipped_is t w ∙ b) e)
        (λ e. fit_answers (le t) _ (gamma_above c h (threshold_within t (float w) ok b r)))
        (λ e. both e (above_not_below t (float w) (both_hold (finite t) _ ok).1 a))

    -- below, the smaller of the candidate and the negative threshold
    below : le t (magnitude (float w)) ≡ true → le t (float w) ≡ false → Answers (smaller (float c) (neg t))
    below b a =
        answers_by t w _ (λ e. both (clipped_is t w ∙ b) e) (λ e. both e a)
        (λ e. fit_answers (λ x. le x (neg t)) _ (gamma_below c h (threshold_within t (float w) ok b r)))

    -- so what `project_gamma` makes of the candidate
    gamma_answers : w < 2 ^ 32 → answers t w (projected_word t c w) ≡ true
    gamma_answers small =
        subst Answers (sym (gamma_is t (float w) (float c)))
        (picks_by Answers (lt (magnitude (float w)) t) _ _ (under small)
        (λ l. picks_by Answers (le t (float w)) _ _ (above (beyond_it l)) (below (beyond_it l))))

  -- ---- All samples

  -- none of them is refused, at whatever place they begin
  gamma_answered : (i : ℕ) (cs ws : List ℕ) → Candidates cs → InRange ws → answered t i ws (projected t cs ws) ≡ Ok 0
  gamma_answered i [] [] h r = unfold answered in refl
  gamma_answered i [] (w ∷ ws) h r = unfold answered projected in refl
  gamma_answered i (c ∷ cs) [] h r = unfold answered in refl
  gamma_answered i (c ∷ cs) (w ∷ ws) h r =
      let first = gamma_answers c w h.0 (sym (in_range_is w) ∙ r.0) r.1 in
      rw (projected_cons t c w cs ws, answered_cons, first) (gamma_answered (i + 1) cs ws h.1 r.2)

  -- what is made of as many candidates as samples is as long
  gamma_length : (cs ws : List ℕ) → length cs ≡ length ws → length (projected t cs ws) ≡ length ws
  unfolding projected
  gamma_length [] ws e = e
  gamma_length (c ∷ cs) [] e = refl
  gamma_length (c ∷ cs) (w ∷ ws) e = ap suc (gamma_length cs ws (omega arith))

  -- so refusal 15 is not given
  gamma_taken : (cs ws : List ℕ) → Candidates cs → InRange ws → length cs ≡ length ws → taken t ws (projected t cs ws) ≡ Ok 0
  unfolding taken
  gamma_taken cs ws h r e = rw (eq-eqb _ _ (gamma_length cs ws e), gamma_answered 0 cs ws h r)

-- every sample of a recording in range is readable
all_readable : (i : ℕ) (ws : List ℕ) → InRange ws → readable i ws ≡ Ok 0
unfolding readable
all_readable i [] r = refl
all_readable i (w ∷ ws) r = rw r.0 (all_readable (i + 1) ws r.2)

-- nor is 4, nor 7
pub projected_is_taken : ProjectedIsTaken
unfolding proposed_plan
projected_is_taken t cs ws f ok r h e = rw (ok, all_readable 0 ws r, gamma_taken t f ok cs ws h r e)

-- ---- The call

-- a repair ends with so many samples, where the recording fits, every result is in range, and the journal has room for what is named
accepted : (s : State) (mark : ℕ) (cs : List Placed) → fitting s ≡ Ok 0 → ranged cs ≡ Ok 0
    → (1 ≤ length cs → entry_size (length cs) ≤ length s.journal - s.used) → (performed s (change mark cs)).answer ≡ Ok (length cs)
unfolding performed carried entered
accepted s mark cs f r room = elim (truth (eqb (length cs) 0)) [
  | inl z ↦ rw (f, r, z, eqb-true (length cs) 0 z)
  | inr z ↦
      let some = eqb-false (length cs) 0 z in
      rw (f, r, z, le-ltb _ _ (room (omega arith)))
]

-- the repair performs its plan
repair_is : (t : Float) (ps : List ℕ) (s : State) → proposed_repair t ps s ≡ performed s (proposed_plan t ps s.samples)
unfolding proposed_repair
repair_is t ps s = refl

pub projected_is_accepted : ProjectedIsAccepted
projected_is_accepted t cs s f ok r h e fit room =
    let ps = projected t cs s.samples in
    let results = results_are_in_range t s.samples ps (gamma_taken t f ok cs s.samples h r e) in
    rw (repair_is t ps s, projected_is_taken t cs s.samples f ok r h e)
    (accepted s declip_proposed (named t s.samples ps) fit results room)
