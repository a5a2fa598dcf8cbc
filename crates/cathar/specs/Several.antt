-- Request P6 of document 02, of the calls of this library: several gaps in one call are single calls in turn, and an undo takes back one of
-- them. Definitions, and then two statements, which are proved as theorems of the same names, written small, in proofs/Several.antt, which
-- nobody has to read.
use Rattle.std.specs.Prelude.{ℕ, ◌<◌, ◌≡◌, false, List, [], ◌∷◌, ◌++◌, length, Float}
use Rattle.recording.specs.Recording.{State}
use Rattle.std.specs.Prelude.{Ok}
use Rattle.inpaint.specs.Runs.{Stretch}
use Rattle.inpaint.specs.Order.{gap_order}
use Rattle.splice.specs.Several.{spans, AnswerLists, answer_lists, lists_wrong, Several, several, in_turn, gaps_repair}
use Rattle.cathar.specs.Calls.{gap, gaps, undo, Work, none, doubles, words, ran}
use Rattle.cathar.specs.Demands.{after, AfterAny}

-- the doubles that a call left in its workspace, for the next
abbrev pub lent_on : Work → List Float
lent_on none = []
lent_on (doubles work) = work
lent_on (words work) = []

-- What single calls of gaps leave, one after the other, each lent the recording and the workspace that the one before it left: of each its
-- number, its figure, and the order beside them.
unfoldable pub singly : ℕ → List Stretch → List Float → State → Several
unfolding gap_order
singly passes [] work s = several (Ok 0) (answer_lists [] [] []) s work
singly passes (g ∷ gs) work s =
    let o = ran (gap g.start g.len passes work) s in
    let c = singly passes gs (lent_on o.work) o.after in
    let later = c.lists in
    let order = gap_order g.start g.len passes (length work) s in
    several c.answer (answer_lists (o.number ∷ later.numbers) (o.figures ++ later.values) (order ∷ later.orders)) c.after c.work

-- "Samples, marks, journal, counts and answers equal those of single calls in turn, a refused span in the middle included", and so does
-- the workspace
abbrev pub GapsAreSingleCalls : Type 0
GapsAreSingleCalls =
    (starts lens : List ℕ) (passes : ℕ) (work : List Float) (lists : AnswerLists) (s : State) → lists_wrong starts lens lists ≡ false
    → gaps_repair starts lens passes work lists s ≡ singly passes (spans starts lens) work s

-- these numbers are all those of refusals
abbrev pub AllRefused : List ℕ → Type 0
AllRefused [] = Unit {0}
AllRefused (k ∷ ks) = (0 < k) × AllRefused ks

-- "so an undo takes back one span": after any calls on a freshly opened recording and then several gaps, of which g is the last that was
-- accepted, an undo gives what the spans before g had left
abbrev pub UndoTakesBackOneSpan : Type 0
UndoTakesBackOneSpan =
    AfterAny
    (λ raw cs.
    (starts lens : List ℕ) (passes : ℕ) (work : List Float) (lists : AnswerLists) (before later : List Stretch) (g : Stretch)
    → lists_wrong starts lens lists ≡ false → spans starts lens ≡ before ++ (g ∷ later)
    → let found = in_turn passes before work (after cs raw) in
    let own = ran (gap g.start g.len passes found.work) found.after in
    own.number ≡ 0
    → AllRefused (in_turn passes later (lent_on own.work) own.after).lists.numbers
    → (ran undo (ran (gaps starts lens passes work lists) (after cs raw)).after).after ≡ found.after)
