-- Several gaps in one call: request P6 of document 02 and one sentence of request P8, which the comments quote. A span is one gap, as
-- specs/Gap.antt of the crate `inpaint` has it, with the order of its model, as Order.antt there does. Definitions only.
use Rattle.std.specs.Prelude.{ℕ, Bool, not, ◌||◌, List, [], ◌∷◌, length, ltb, eqb, Float}
use Rattle.std.specs.Borrow.{MutBor}
use denote.Triple.Both.{Both}
use Rattle.leaves.specs.Arithmetic.{nought}
use Rattle.std.specs.Prelude.{if◌then◌else◌}
use Rattle.recording.specs.Answers.{number, value}
use Rattle.recording.specs.Recording.{State, work_after}
use Rattle.recording.specs.declared.Reason.TheVariants.{Setting}
use Rattle.recording.specs.Answer.{Answer}
use Rattle.std.specs.Prelude.{Ok, Err}
use Rattle.inpaint.specs.Gap.{needed, gap_repair}
use Rattle.inpaint.specs.Runs.{Stretch, stretch}
use Rattle.inpaint.specs.Order.{gap_order}

-- ---- What is handed over

-- "The splice editor hands over up to 64 spans at once."
abbrev pub most_spans : ℕ
most_spans = 64

-- the spans of a list of starts and a list of lengths, one of each for each span
abbrev pub spans : List ℕ → List ℕ → List Stretch
spans [] lens = []
spans (start ∷ starts) [] = []
spans (start ∷ starts) (len ∷ lens) = stretch start len ∷ spans starts lens

-- the lists for the answers: of each span its number and its value and, since "the list call shows it per span", the order of its model
pub record AnswerLists : Type 0 where
  pub numbers : List ℕ
  pub values : List ℕ
  pub orders : List ℕ

abbrev pub answer_lists : List ℕ → List ℕ → List ℕ → AnswerLists
answer_lists numbers values orders = record { numbers = numbers; values = values; orders = orders }

-- 4: "for more than 64 spans or an answer list of another length", where so many starts, lengths, numbers, values and orders are lent
abbrev pub lengths_wrong : ℕ → ℕ → ℕ → ℕ → ℕ → Bool
lengths_wrong starts lens numbers values orders =
    ltb most_spans starts || not (eqb lens starts) || not (eqb numbers starts) || not (eqb values starts) || not (eqb orders starts)

abbrev pub lists_wrong : List ℕ → List ℕ → AnswerLists → Bool
lists_wrong starts lens lists =
    lengths_wrong (length starts) (length lens) (length lists.numbers) (length lists.values) (length lists.orders)

-- ---- What is done

-- what the call leaves: its own answer, those of its spans, the recording and the workspace
pub record Several : Type 0 where
  pub answer : Answer
  pub lists : AnswerLists
  pub after : State
  pub work : List Float

abbrev pub several : Answer → AnswerLists → State → List Float → Several
several answer lists s work = record { answer = answer; lists = lists; after = s; work = work }

-- "each with its own answer in its own place": that of a span, before those of the spans behind it
abbrev pub with_answer : Answer → ℕ → Several → Several
with_answer a order c =
    let later = c.lists in
    several c.answer (answer_lists (number a ∷ later.numbers) (value a ∷ later.values) (order ∷ later.orders)) c.after c.work

-- "They are repaired in the order given, overlaps and repeats allowed": the first by the single call, and the others on the recording and
-- in the workspace that it left, "a refused span in the middle included"
unfoldable pub in_turn : ℕ → List Stretch → List Float → State → Several
unfolding gap_repair gap_order needed
in_turn passes [] work s = several (Ok 0) (answer_lists [] [] []) s work
in_turn passes (g ∷ gs) work s =
    let e = gap_repair g.start g.len passes (length work) s in
    let order = gap_order g.start g.len passes (length work) s in
    let left = work_after nought (needed (length s.samples) g.start g.len) e.answer work in
    with_answer e.answer order (in_turn passes gs left e.after)

-- the call: "4 first, .. with nothing done; all others are each span's own"
unfoldable pub gaps_repair : List ℕ → List ℕ → ℕ → List Float → AnswerLists → State → Several
unfolding in_turn
gaps_repair starts lens passes work lists s =
    if lists_wrong starts lens lists then several (Err Setting) lists s work else in_turn passes (spans starts lens) work s

-- ---- The lists as they are lent, in the words of contracts (`Lent` of the crate `recording`): as the call began, and as it ended

abbrev pub answers_lent : {A B C : Type 0} → Both (MutBor (List ℕ)) A → Both (MutBor (List ℕ)) B → Both (MutBor (List ℕ)) C → AnswerLists
answers_lent numbers values orders = answer_lists numbers.entry.now values.entry.now orders.entry.now

abbrev pub answers_left : {A B C : Type 0} → Both A (MutBor (List ℕ)) → Both B (MutBor (List ℕ)) → Both C (MutBor (List ℕ)) → AnswerLists
answers_left numbers values orders = answer_lists numbers.exit.now values.exit.now orders.exit.now
