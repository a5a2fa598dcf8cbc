-- What follows from the rule of several gaps in one call. Statements only, each proved under the same name, written small, in
-- proofs/InTurn.antt, which nobody has to read.
use Rattle.std.specs.Prelude.{ℕ, ◌≡◌, true, false, List, [], ◌∷◌, ◌++◌, length, get_or, Float}
use Rattle.recording.specs.Answers.{number, value}
use Rattle.recording.specs.Recording.{State}
use Rattle.recording.specs.History.{run}
use Rattle.recording.specs.declared.Reason.TheVariants.{Setting}
use Rattle.std.specs.Prelude.{Ok, Err}
use Rattle.inpaint.specs.Gap.{gap_repair}
use Rattle.inpaint.specs.Runs.{Stretch, single_calls}
use Rattle.inpaint.specs.Order.{gap_order}
use Rattle.splice.specs.Several.{spans, AnswerLists, answer_lists, lists_wrong, several, in_turn, gaps_repair}

-- a list that 4 turns away: "nothing done", and no answer written
abbrev pub RefusedList : Type 0
RefusedList =
    (starts lens : List ℕ) (passes : ℕ) (work : List Float) (lists : AnswerLists) (s : State) → lists_wrong starts lens lists ≡ true
    → gaps_repair starts lens passes work lists s ≡ several (Err Setting) lists s work

-- one that it does not: "all others are each span's own", and the call itself accepts
abbrev pub TakenList : Type 0
TakenList =
    (starts lens : List ℕ) (passes : ℕ) (work : List Float) (lists : AnswerLists) (s : State) → lists_wrong starts lens lists ≡ false
    → (gaps_repair starts lens passes work lists s ≡ in_turn passes (spans starts lens) work s)
    × ((in_turn passes (spans starts lens) work s).answer ≡ Ok 0)

-- an empty list is accepted and does nothing
abbrev pub EmptyList : Type 0
EmptyList =
    (passes : ℕ) (work : List Float) (s : State)
    → let none = answer_lists [] [] [] in gaps_repair [] [] passes work none s ≡ several (Ok 0) none s work

-- the answers of spans, and behind them those of others
abbrev pub followed : AnswerLists → AnswerLists → AnswerLists
followed a b = answer_lists (a.numbers ++ b.numbers) (a.values ++ b.values) (a.orders ++ b.orders)

-- Wherever a list is cut, the spans up to there and then the others, on the recording and in the workspace that these left, give what
-- the whole gives. So it does in pieces of one span each: "Samples, marks, journal, counts and answers equal those of single calls in turn".
abbrev pub CutAnywhere : Type 0
CutAnywhere =
    (passes : ℕ) (gs hs : List Stretch) (work : List Float) (s : State)
    → let one = in_turn passes gs work s in
    let two = in_turn passes hs one.work one.after in
    in_turn passes (gs ++ hs) work s ≡ several (Ok 0) (followed one.lists two.lists) two.after two.work

-- "each with its own answer in its own place": the single call's, on what the spans before it left
abbrev pub OwnPlace : Type 0
OwnPlace =
    (passes : ℕ) (before later : List Stretch) (g : Stretch) (work : List Float) (s : State)
    → let found = (in_turn passes before work s).after in
    let answer = (gap_repair g.start g.len passes (length work) found).answer in
    let lists = (in_turn passes (before ++ (g ∷ later)) work s).lists in
    (get_or lists.numbers (length before) 0 ≡ number answer)
    × (get_or lists.values (length before) 0 ≡ value answer)
    × (get_or lists.orders (length before) 0 ≡ gap_order g.start g.len passes (length work) found)

-- "Demand 3 reads the list as its single repairs"
abbrev pub ListIsItsRepairs : Type 0
ListIsItsRepairs =
    (passes : ℕ) (gs : List Stretch) (work : List Float) (s : State)
    → (in_turn passes gs work s).after ≡ run (single_calls passes (length work) gs) s
