-- What follows from the rules of a call, from those of the span question and from demand 3. Proved in proofs/Single.antt,
-- proofs/Counting.antt, proofs/Asking.antt and proofs/History.antt under the same names, written small.
use Rattle.std.specs.Prelude.{true}
use Rattle.std.specs.Prelude.{ℕ, zero, suc, ◌+◌, ◌-◌, ◌≤◌, ◌<◌, ◌⊎◌, ◌≡◌, false, List, [], ◌∷◌, map, reverse, length, get_or, replicate}
use Rattle.recording.specs.Answers.{value}
use Rattle.recording.specs.Recording.{State, Placed, places, put, Plan, refuse, change}
use Rattle.recording.specs.Recording.{last_count, last_mark, last_begin}
use Rattle.recording.specs.Marks.{measured, made}
use Rattle.recording.specs.Counts.{block_of, count_of, counted, recounted}
use Rattle.recording.specs.Question.{marks_say, span_verdict}
use Rattle.recording.specs.History.{Repair, Call, repair, undo, did, run, survivors, LawfulRepair, AfterAny}
use Rattle.recording.specs.declared.Reason.{Reason}
use Rattle.std.specs.Prelude.{Ok, Err}

-- ---- Of every call, on any recording

-- demand 1: "A refusal changes nothing."
abbrev pub RefusalChangesNothing : Type 0
RefusalChangesNothing = (c : Call) (s : State) (why : Reason) → (did c s).answer ≡ Err why → (did c s).after ≡ s

-- it is one of these
abbrev pub Among : {A : Type 0} → A → List A → Type 0
Among x [] = ⊥
Among x (y ∷ ys) = (x ≡ y) ⊎ Among x ys

-- the named samples get their words, "exactly the samples it names" get the mark, and no other sample's word changes
pub record MadeOf (mark : ℕ) (cs : List Placed) (before after : State) : Type 0 where
  pub words : after.samples ≡ put cs before.samples
  pub named : (i : ℕ) → Among i (places cs) → get_or after.marks i 0 ≡ mark
  pub others : (i : ℕ) → (Among i (places cs) → ⊥)
      → (get_or after.samples i 0 ≡ get_or before.samples i 0) × (get_or after.marks i 0 ≡ get_or before.marks i 0)

-- demand 2: "An accepted repair gives, bit for bit, the samples of document 01's rules .. and marks exactly the samples it names", and
-- answers how many these are
abbrev pub AcceptedAsRuled : Type 0
AcceptedAsRuled =
    (r : Repair) (s : State) (mark : ℕ) (cs : List Placed) (m : ℕ) → LawfulRepair r → r s.samples ≡ change mark cs
    → (did (repair r) s).answer ≡ Ok m → MadeOf mark cs s (did (repair r) s).after × (m ≡ length cs)

-- request P5: "recounts the blocks of its samples and no others", for samples at any places, whatever counts are lent: a block of theirs
-- gets the count of the marks as they are now, and any other keeps what it had
abbrev pub ItsBlocksAndNoOthers : Type 0
ItsBlocksAndNoOthers =
    (marks is counts : List ℕ) (block : ℕ)
    → (Among block (map block_of is) → block < length counts → get_or (recounted marks is counts) block 0 ≡ count_of marks block)
    × ((Among block (map block_of is) → ⊥) → get_or (recounted marks is counts) block 0 ≡ get_or counts block 0)

-- ---- Of the span question

-- every sample of a span is marked measured
abbrev pub EachMeasured : List ℕ → ℕ → ℕ → Type 0
EachMeasured marks start len = (i : ℕ) → start ≤ i → i < start + len → get_or marks i 0 ≡ measured

-- "its answer must equal looking at each mark": where the counts are "those worked out from the marks", and the span is within them
abbrev pub AnswerIsEachMark : Type 0
AnswerIsEachMark =
    (marks : List ℕ) (start len : ℕ) → start + len ≤ length marks
    → span_verdict marks (counted marks) start len ≡ Ok (marks_say marks start len)

-- so it is yes exactly when every mark of the span is 0
abbrev pub YesExactlyWhen : Type 0
YesExactlyWhen =
    (marks : List ℕ) (start len : ℕ)
    → (span_verdict marks (counted marks) start len ≡ Ok true → EachMeasured marks start len)
    × (start + len ≤ length marks → EachMeasured marks start len → span_verdict marks (counted marks) start len ≡ Ok true)

-- "looks at marks only in the blocks its ends fall in": two lists of marks that agree there give the same answer, whatever the counts are
abbrev pub OtherMarksHaveNoSay : Type 0
OtherMarksHaveNoSay =
    (marks others counts : List ℕ) (start len : ℕ) → length others ≡ length marks
    → ((i : ℕ) → (block_of i ≡ block_of start) ⊎ (block_of i ≡ block_of (start + len - 1)) → get_or others i 0 ≡ get_or marks i 0)
    → span_verdict others counts start len ≡ span_verdict marks counts start len

-- and of the counts only those of the blocks between have a say
abbrev pub OtherCountsHaveNoSay : Type 0
OtherCountsHaveNoSay =
    (marks counts others : List ℕ) (start len : ℕ) → length others ≡ length counts
    → ((block : ℕ) → block_of start < block → block < block_of (start + len - 1) → get_or others block 0 ≡ get_or counts block 0)
    → span_verdict marks others start len ≡ span_verdict marks counts start len

-- ---- Of every freshly opened recording with every sequence of calls

-- request P5: the counts "equal those worked out from the marks"
abbrev pub CountsAreWorkedOut : Type 0
CountsAreWorkedOut = AfterAny (λ raw cs. (run cs raw).counts ≡ counted (run cs raw).marks)

-- every repair of a replay is accepted, as it was, and names a sample
abbrev pub AllName : List Repair → State → Type 0
AllName [] s = Unit {0}
AllName (r ∷ rs) s = ((m : ℕ) × ((did (repair r) s).answer ≡ Ok (suc m))) × AllName rs (did (repair r) s).after

abbrev pub SurvivorsStand : Type 0
SurvivorsStand = AfterAny (λ raw cs. AllName (survivors cs raw) raw)

-- an undo directly behind a repair that was accepted and named a sample gives back the recording that this repair found
abbrev pub UndoTakesBackTheLast : Type 0
UndoTakesBackTheLast =
    AfterAny
    (λ raw cs.
    (r : Repair) (m : ℕ) → LawfulRepair r → (did (repair r) (run cs raw)).answer ≡ Ok (suc m)
    → (did undo (did (repair r) (run cs raw)).after).after ≡ run cs raw)

-- undoing everything, and also going on to undo after that, returns every raw word and mark, and an empty journal
abbrev pub UndoingAll : Type 0
UndoingAll = AfterAny (λ raw cs. (k : ℕ) → length (survivors cs raw) ≤ k → run (replicate k undo) (run cs raw) ≡ raw)

-- a sample marked measured has its raw word, and was so marked from the start
abbrev pub MeasuredIsRaw : Type 0
MeasuredIsRaw =
    AfterAny
    (λ raw cs.
    (i : ℕ)
    → get_or (run cs raw).marks i 0 ≡ measured
    → (get_or (run cs raw).samples i 0 ≡ get_or raw.samples i 0) × (get_or raw.marks i 0 ≡ measured))

-- and so has every sample whose mark is none that a repair sets
abbrev pub UnmadeIsRaw : Type 0
UnmadeIsRaw =
    AfterAny
    (λ raw cs.
    (i : ℕ)
    → made (get_or (run cs raw).marks i 0) ≡ false
    → (get_or (run cs raw).samples i 0 ≡ get_or raw.samples i 0) × (get_or (run cs raw).marks i 0 ≡ get_or raw.marks i 0))

-- used never exceeds the journal, and the free words are 0
abbrev pub FreeIsZero : Type 0
FreeIsZero =
    AfterAny
    (λ raw cs. ((run cs raw).used ≤ length (run cs raw).journal) × ((i : ℕ) → (run cs raw).used ≤ i → get_or (run cs raw).journal i 0 ≡ 0))

-- the last two words of an entry: m, and the mark that was set
pub record Closing : Type 0 where
  pub count : ℕ
  pub mark : ℕ

-- those of the last n entries, read from the journal, the last entry first
unfoldable pub closings : ℕ → List ℕ → ℕ → List Closing
closings zero journal used = []
closings (suc n) journal used =
    record { count = last_count journal used; mark = last_mark journal used } ∷ closings n journal (last_begin journal used)

-- what each repair of a replay returned, and the mark that it set
abbrev pub mark_of : Plan → ℕ
mark_of (refuse why) = 0
mark_of (change mark cs) = mark

unfoldable pub returned : List Repair → State → List Closing
unfolding did
returned [] s = []
returned (r ∷ rs) s =
    record { count = value (did (repair r) s).answer; mark = mark_of (r s.samples) } ∷ returned rs (did (repair r) s).after

-- the journal's m and mark, entry by entry, are those of the survivors
abbrev pub EntriesAreSurvivors : Type 0
EntriesAreSurvivors =
    AfterAny
    (λ raw cs.
    closings (length (survivors cs raw)) (run cs raw).journal (run cs raw).used ≡ reverse (returned (survivors cs raw) raw))
