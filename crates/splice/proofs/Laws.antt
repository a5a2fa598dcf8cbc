-- Several gaps in one call: which lists are turned away, and the spans one after the other, each with its answers stored in its own
-- place. Assumes nothing.
use mathlib.Core.Path.{◌≡◌, refl, sym, ap, ◌∙◌}
use mathlib.Core.Bool.{true, false, not, ◌||◌}
use mathlib.Core.List.{List, [], ◌∷◌}
use Prim.Native.Nat.{ℕ, zero, suc, ◌+◌, ◌≤◌, ◌<◌}
use native.Mathlib.Omega.{arith}
use borrow.Author.Tests.{eqb-true, not-false}
use lib.ListN.{length, get_or, set, drop, drop_of_length-le}
use lib.Seq.{sets}
use lib.Dec.{ltb, eqb}
use lib.Ieee.{Float}
use Rattle.leaves.specs.Arithmetic.{nought}
use Rattle.leaves.proofs.Choice.{neither}
use Rattle.leaves.proofs.Stores.{stored_over}
use Rattle.recording.specs.Answers.{number, value}
use Rattle.recording.specs.Recording.{State, Ended, ended, work_after}
use Rattle.recording.specs.declared.Reason.TheVariants.{Setting}
use Rattle.recording.specs.Answer.{Answer}
use Rattle.std.specs.Prelude.{Ok, Err}
use Rattle.inpaint.specs.Gap.{needed, gap_repair}
use Rattle.inpaint.specs.Runs.{Stretch, stretch}
use Rattle.inpaint.specs.Order.{gap_order}
use Rattle.splice.specs.Several.{spans, AnswerLists, answer_lists, lengths_wrong, lists_wrong, Several, several, with_answer}
use Rattle.splice.specs.Several.{in_turn, gaps_repair}

-- ---- The lists

-- lists that are not turned away are as long as the starts
pub record AsLong (starts lens numbers values orders : ℕ) : Type 0 where
  pub of_lens : lens ≡ starts
  pub of_numbers : numbers ≡ starts
  pub of_values : values ≡ starts
  pub of_orders : orders ≡ starts

pub as_long : (starts lens numbers values orders : ℕ) → lengths_wrong starts lens numbers values orders ≡ false
    → AsLong starts lens numbers values orders
as_long starts lens numbers values orders h =
    let four = neither (ltb 64 starts || not (eqb lens starts) || not (eqb numbers starts) || not (eqb values starts)) _ h in
    let three = neither (ltb 64 starts || not (eqb lens starts) || not (eqb numbers starts)) _ four.0 in
    let two = neither (ltb 64 starts || not (eqb lens starts)) _ three.0 in
    let one = neither (ltb 64 starts) _ two.0 in
    record {
      of_lens = eqb-true lens starts (not-false _ one.1);
      of_numbers = eqb-true numbers starts (not-false _ two.1);
      of_values = eqb-true values starts (not-false _ three.1);
      of_orders = eqb-true orders starts (not-false _ four.1);
    }

-- ---- The spans

-- as many as there are starts
pub spans_count : (starts lens : List ℕ) → length lens ≡ length starts → length (spans starts lens) ≡ length starts
spans_count [] lens e = refl
spans_count (start ∷ starts) [] e = absurd (omega arith)
spans_count (start ∷ starts) (len ∷ lens) e = ap suc (spans_count starts lens (omega arith))

-- the one at place k, and those behind it
spans_from : (starts lens : List ℕ) (k : ℕ) → length lens ≡ length starts → k < length starts
    → drop k (spans starts lens) ≡ stretch (get_or starts k 0) (get_or lens k 0) ∷ drop (suc k) (spans starts lens)
spans_from [] lens k e h = absurd (omega arith)
spans_from (start ∷ starts) [] k e h = absurd (omega arith)
spans_from (start ∷ starts) (len ∷ lens) zero e h = refl
spans_from (start ∷ starts) (len ∷ lens) (suc k) e h = spans_from starts lens k (omega arith) (omega arith)

pub span_at : (starts lens : List ℕ) (k : ℕ) → length lens ≡ length starts → k < length starts
    → drop k (spans starts lens) ≡ stretch (get_or starts k 0) (get_or lens k 0) ∷ drop (k + 1) (spans starts lens)
span_at starts lens k e h = let next : k + 1 ≡ suc k = omega arith in rw next (spans_from starts lens k e h)

-- ---- One after the other

-- what spans leave whose answers are stored in the lists from place k on
abbrev pub placed : ℕ → AnswerLists → Several → Several
placed k lists c =
    several c.answer
    (answer_lists (sets lists.numbers k c.lists.numbers) (sets lists.values k c.lists.values)
    (sets lists.orders k c.lists.orders)) c.after c.work

-- each span has an answer
pub answered_count : (passes : ℕ) (gs : List Stretch) (work : List Float) (s : State)
    → let lists = (in_turn passes gs work s).lists in
    (length lists.numbers ≡ length gs) × (length lists.values ≡ length gs) × (length lists.orders ≡ length gs)
unfolding in_turn
answered_count passes [] work s = (refl, refl, refl)
answered_count passes (g ∷ gs) work s =
    let later = answered_count passes gs _ _ in
    (ap suc later.0, ap suc later.1, ap suc later.2)

-- so all answers, stored from the first place on, are the lists
pub all_placed : (passes : ℕ) (starts lens : List ℕ) (lists : AnswerLists) (work : List Float) (s : State)
    → AsLong (length starts) (length lens) (length lists.numbers) (length lists.values) (length lists.orders)
    → placed 0 lists (in_turn passes (spans starts lens) work s) ≡ in_turn passes (spans starts lens) work s
all_placed passes starts lens lists work s a =
    let gs = spans starts lens in
    let c = answered_count passes gs work s in
    let n = spans_count starts lens a.of_lens in
    rw (
      stored_over lists.numbers _ (c.0 ∙ n ∙ sym a.of_numbers),
      stored_over lists.values _ (c.1 ∙ n ∙ sym a.of_values),
      stored_over lists.orders _ (c.2 ∙ n ∙ sym a.of_orders),
    ) refl

-- the first span, as its call leaves it, and the others
module _ (passes start len : ℕ) (later : List Stretch) (w v : List Float) (s t : State) (a : Answer) (order : ℕ)
    (ends : ended a t ≡ gap_repair start len passes (length w) s)
    (ev : v ≡ work_after nought (needed (length s.samples) start len) a w)
    (eo : order ≡ gap_order start len passes (length w) s)
  where
    pub first_span : with_answer a order (in_turn passes later v t) ≡ in_turn passes (stretch start len ∷ later) w s
    unfolding in_turn
    first_span =
        rw (ev, eo)
        (ap
        (λ (e : Ended).
        with_answer e.answer (gap_order start len passes (length w) s)
        (in_turn passes later (work_after nought (needed (length s.samples) start len) e.answer w) e.after)) ends)

    -- one turn: a span is repaired and its answers are stored, and then what is left gives the same whole
    pub span_turn : (gs : List Stretch) (k n m : ℕ) (lists : AnswerLists) (whole : Several)
        → gs ≡ stretch start len ∷ later → n ≡ number a → m ≡ value a → placed k lists (in_turn passes gs w s) ≡ whole
        → placed (k + 1) (answer_lists (set lists.numbers k n) (set lists.values k m) (set lists.orders k order))
        (in_turn passes later v t) ≡ whole
    span_turn gs k n m lists whole here en em rest =
        let next : k + 1 ≡ suc k = omega arith in
        rw (next, en, em)
        (ap (placed k lists) first_span ∙ sym (ap (λ (hs : List Stretch). placed k lists (in_turn passes hs w s)) here) ∙ rest)

-- where no span is left, the whole is there
pub spans_done : (passes k : ℕ) (gs : List Stretch) (lists : AnswerLists) (w : List Float) (s : State) (whole : Several)
    → length gs ≤ k → placed k lists (in_turn passes (drop k gs) w s) ≡ whole → several (Ok 0) lists s w ≡ whole
unfolding in_turn
spans_done passes k gs lists w s whole h rest =
    sym (ap (λ (hs : List Stretch). placed k lists (in_turn passes hs w s)) (drop_of_length-le gs h)) ∙ rest

-- ---- The call

module _ (starts lens : List ℕ) (passes : ℕ) (work : List Float) (lists : AnswerLists) (s : State) where
  pub list_refused : lists_wrong starts lens lists ≡ true → several (Err Setting) lists s work ≡ gaps_repair starts lens passes work lists s
  unfolding gaps_repair
  list_refused h = rw h refl

  pub list_taken : lists_wrong starts lens lists ≡ false → in_turn passes (spans starts lens) work s ≡ gaps_repair starts lens passes work lists s
  unfolding gaps_repair
  list_taken h = rw h refl
