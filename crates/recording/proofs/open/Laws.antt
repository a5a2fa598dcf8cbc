-- Refusals 1, 14, 2 and 3 and the two openings, line by line: the tests that failed before, the test that holds, and how the call ends.
-- Assumes nothing.
use mathlib.Core.Path.{◌≡◌, refl, sym, ap, ◌∙◌}
use mathlib.Core.Bool.{true, false}
use mathlib.Core.List.{List, [], map}
use mathlib.Core.Logic.{◌⊎◌, inl, inr}
use Prim.Native.Nat.{ℕ, ◌≤◌, ◌<◌}
use borrow.Author.Tests.{lt-ltb, le-ltb, eq-eqb, ne_eqb, eqb-true, ltb-false, not-false}
use native.Mathlib.Omega.{arith}
use lib.ListN.{length, replicate, length-map, length-replicate}
use lib.Seq.{sets, length-sets}
use Rattle.std.specs.Prelude.{if◌then◌else◌}
use Rattle.leaves.proofs.Choice.{picks_by}
use Rattle.leaves.proofs.Stores.{stored_over}
use Rattle.recording.specs.Recording.{State, state, ended, most_samples, differ, counts_wrong, too_many, over_used, or_else, alike}
use Rattle.recording.specs.Recording.{fitting, opened_with, opened, kept_mark, opened_received}
use Rattle.recording.specs.Counts.{blocks, counted}
use Rattle.recording.specs.Answers.{number}
use Rattle.recording.specs.Inner.{Fits}
use Rattle.recording.specs.declared.Reason.{Reason}
use Rattle.recording.specs.declared.Reason.TheVariants.{Counts, TooMany, Used, Blocks}
use Rattle.recording.specs.Answer.{Answer}
use Rattle.std.specs.Prelude.{Ok, Err}

-- a value stored at every place of a list
pub all_over : {A : Type 0} (l : List A) (v : A) → sets l 0 (replicate (length l) v) ≡ replicate (length l) v
all_over l v = stored_over l (replicate (length l) v) (length-replicate (length l) v)

-- ---- Refusals 1, 14 and 2, of marks, counts and samples

module _ (s : State) where
  pub alike_counts : (length s.marks ≡ length s.samples → ⊥) → Err Counts ≡ alike s
  unfolding alike
  alike_counts h = rw (ne_eqb _ _ h) refl

  module _ (one : length s.marks ≡ length s.samples) where
    pub alike_blocks : (length s.counts ≡ blocks (length s.samples) → ⊥) → Err Blocks ≡ alike s
    unfolding alike
    alike_blocks h = rw (eq-eqb _ _ one, ne_eqb _ _ h) refl

    module _ (two : length s.counts ≡ blocks (length s.samples)) where
      pub alike_too_many : most_samples < length s.samples → Err TooMany ≡ alike s
      unfolding alike
      alike_too_many h = rw (eq-eqb _ _ one, eq-eqb _ _ two, lt-ltb _ _ h) refl

      pub alike_all : length s.samples ≤ most_samples → Ok 0 ≡ alike s
      unfolding alike
      alike_all h = rw (eq-eqb _ _ one, eq-eqb _ _ two, le-ltb _ _ h) refl

-- what holds of each answer, where the tests before it failed and its own holds, holds of theirs
pub alike_by : (P : Answer → Type 0) (s : State)
    → (differ s ≡ true → P (Err Counts))
    → (differ s ≡ false → counts_wrong s ≡ true → P (Err Blocks))
    → (differ s ≡ false → counts_wrong s ≡ false → too_many s ≡ true → P (Err TooMany))
    → (differ s ≡ false → counts_wrong s ≡ false → too_many s ≡ false → P (Ok 0))
    → P (alike s)
unfolding alike
alike_by P s one fourteen two none =
    picks_by P (differ s) _ _ one
    (λ a. picks_by P (counts_wrong s) _ _ (fourteen a) (λ b. picks_by P (too_many s) _ _ (two a b) (none a b)))

-- and with refusal 3
pub fitting_by : (P : Answer → Type 0) (s : State)
    → (differ s ≡ true → P (Err Counts))
    → (differ s ≡ false → counts_wrong s ≡ true → P (Err Blocks))
    → (differ s ≡ false → counts_wrong s ≡ false → too_many s ≡ true → P (Err TooMany))
    → (differ s ≡ false → counts_wrong s ≡ false → too_many s ≡ false → over_used s ≡ true → P (Err Used))
    → (differ s ≡ false → counts_wrong s ≡ false → too_many s ≡ false → over_used s ≡ false → P (Ok 0))
    → P (fitting s)
unfolding fitting
fitting_by P s one fourteen two three none =
    alike_by (λ (a : Answer). P (or_else a (if over_used s then Err Used else Ok 0))) s one fourteen two
    (λ a b c. picks_by P (over_used s) _ _ (three a b c) (none a b c))

-- ---- What follows the answer a to them, in which journal and used have no say

module _ (s : State) (a : Answer) (tested : a ≡ alike (state s.samples s.marks s.counts [] 0)) where
  answered : (b : Answer) → a ≡ b → alike s ≡ b
  unfolding alike
  answered b e = sym tested ∙ e

  -- refusal 3
  pub fitting_refused : (why : Reason) → a ≡ Err why → a ≡ fitting s
  unfolding fitting
  fitting_refused why e = rw (answered _ e, e) refl

  module _ (m : ℕ) (accepted : a ≡ Ok m) where
    pub fitting_used : length s.journal < s.used → Err Used ≡ fitting s
    unfolding fitting
    fitting_used h = rw (answered _ accepted, lt-ltb _ _ h) refl

    pub fitting_all : s.used ≤ length s.journal → Ok 0 ≡ fitting s
    unfolding fitting
    fitting_all h = rw (answered _ accepted, le-ltb _ _ h) refl

  -- an opening under any raw marks
  with_refused : (raw : List ℕ) (why : Reason) → a ≡ Err why → ended a s ≡ opened_with raw s
  unfolding opened_with
  with_refused raw why e = rw (answered _ e, e) refl

  with_done : (raw marks counts journal : List ℕ) (used m : ℕ) → a ≡ Ok m → marks ≡ raw
      → (counts ≡ counted marks) × (journal ≡ replicate (length s.journal) 0) × (used ≡ 0)
      → ended (Ok 0) (state s.samples marks counts journal used) ≡ opened_with raw s
  unfolding opened_with
  with_done raw marks counts journal used m accepted em afresh = rw (answered _ accepted, afresh.0, em, afresh.1, afresh.2) refl

  -- the two openings
  pub opened_refused : (why : Reason) → a ≡ Err why → ended a s ≡ opened s
  unfolding opened
  opened_refused = with_refused _

  pub received_refused : (why : Reason) → a ≡ Err why → ended a s ≡ opened_received s
  unfolding opened_received
  received_refused = with_refused _

  module _ (marks counts journal : List ℕ) (used m : ℕ) (accepted : a ≡ Ok m) where
    pub opened_done : marks ≡ sets s.marks 0 (replicate (length s.marks) 0)
        → (counts ≡ counted marks) × (journal ≡ replicate (length s.journal) 0) × (used ≡ 0)
        → ended (Ok 0) (state s.samples marks counts journal used) ≡ opened s
    unfolding opened
    opened_done em = with_done _ marks counts journal used m accepted (em ∙ all_over s.marks 0)

    pub received_done : marks ≡ map kept_mark s.marks
        → (counts ≡ counted marks) × (journal ≡ replicate (length s.journal) 0) × (used ≡ 0)
        → ended (Ok 0) (state s.samples marks counts journal used) ≡ opened_received s
    unfolding opened_received
    received_done = with_done _ marks counts journal used m accepted

  -- there is a count for each block, also under the marks that an opening sets
  alike_counted : (m : ℕ) → a ≡ Ok m → (marks : List ℕ) → length marks ≡ length s.marks
      → length s.counts ≡ blocks (length marks)
  alike_counted m accepted marks long =
      alike_by (λ (b : Answer). b ≡ Ok m → length s.counts ≡ blocks (length marks)) (state s.samples s.marks s.counts [] 0)
      (λ one e. absurd (omega (arith, ap number e))) (λ one fourteen e. absurd (omega (arith, ap number e)))
      (λ one fourteen two e. absurd (omega (arith, ap number e)))
      (λ one fourteen two e. eqb-true _ _ (not-false _ fourteen) ∙ sym (ap blocks (long ∙ eqb-true _ _ (not-false _ one))))
      (sym tested ∙ accepted)

  module _ (m : ℕ) (accepted : a ≡ Ok m) (marks : List ℕ) where
    pub opened_counted : marks ≡ sets s.marks 0 (replicate (length s.marks) 0) → length s.counts ≡ blocks (length marks)
    opened_counted em = alike_counted m accepted marks (ap length em ∙ length-sets s.marks 0 (replicate (length s.marks) 0))

    pub received_counted : marks ≡ map kept_mark s.marks → length s.counts ≡ blocks (length marks)
    received_counted em = alike_counted m accepted marks (ap length em ∙ length-map s.marks kept_mark)

-- ---- Refusals 1, 14, 2 and 3 as facts

-- none of them applies
pub fits_done : {s : State} → Fits s → fitting s ≡ Ok 0
fits_done {s} f = sym (fitting_all s (Ok 0) (alike_all _ f.marked f.counted f.few) 0 refl f.within)

-- or one does
pub fits_or_not : (s : State) → Fits s ⊎ ((why : Reason) × (fitting s ≡ Err why))
fits_or_not s =
    fitting_by (λ (a : Answer). Fits s ⊎ ((why : Reason) × (a ≡ Err why))) s (λ one. inr (Counts, refl))
    (λ one fourteen. inr (Blocks, refl)) (λ one fourteen two. inr (TooMany, refl)) (λ one fourteen two three. inr (Used, refl))
    (λ one fourteen two three. inl
    (record {
      marked = eqb-true _ _ (not-false _ one);
      counted = eqb-true _ _ (not-false _ fourteen);
      few = ltb-false _ _ two;
      within = ltb-false _ _ three;
    }))

-- where the sizes are accepted, none applies
pub accepted_fits : (s : State) (m : ℕ) → fitting s ≡ Ok m → Fits s
accepted_fits s m h = elim (fits_or_not s) [ inl f ↦ f | inr n ↦ never n.0 n.1 ]
  where
    never : (why : Reason) → fitting s ≡ Err why → Fits s
    never why e =
        let both : Ok m ≡ Err why = sym h ∙ e in
        let none : ◌≡◌ {A = ℕ} 0 1 = cc in
        absurd (omega arith)
