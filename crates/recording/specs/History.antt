-- Demand 3: "After any sequence of repairs, refusals and undos on a freshly opened recording, samples, marks and journal
-- equal those got by applying the rules to the raw recording, in order, for the accepted repairs that named a sample and
-- were not undone." Here are its words as definitions, and then the demand. It is proved as `demand_3` of
-- proofs/History.antt, which nobody has to read; what follows from it stands in Consequences.antt.
use Rattle.std.specs.Prelude.{ℕ, zero, suc, ◌+◌, ◌≤◌, ◌<◌, ◌≡◌, true, List, [], ◌∷◌, map, reverse, ◌⊎◌, length, get_or, replicate}
use Rattle.recording.specs.Recording.{State, state, Ended, Placed, Plan, refuse, change}
use Rattle.recording.specs.Marks.{measured, not_received, made}
use Rattle.recording.specs.Counts.{counted}
use Rattle.recording.specs.Recording.{called, undone, kept_mark, opened_with}
use Rattle.recording.specs.Answer.{Answer}
use Rattle.std.specs.Prelude.{Ok, Err}

-- ---- "any sequence of repairs, refusals and undos"

-- a repair with its settings: what it makes of the samples
abbrev pub Repair : Type 0
Repair = List ℕ → Plan

pub data Call : Type 0 where
  repair : Repair → Call
  undo : Call

-- how a call on a recording ends; refused or accepted, it is a call
unfoldable pub did : Call → State → Ended
unfolding called undone
did (repair r) s = called r s
did undo s = undone s

-- the recording after a sequence of calls
unfoldable pub run : List Call → State → State
unfolding did
run [] s = s
run (c ∷ cs) s = run cs (did c s).after

-- ---- "the accepted repairs that named a sample and were not undone"

-- the survivors, the last on top, after one call more: an accepted repair that named a sample is put on top, an accepted undo
-- takes the top one off, and all else leaves them
abbrev pub surviving : Call → Answer → List Repair → List Repair
surviving (repair r) (Ok zero) kept = kept
surviving (repair r) (Ok (suc m)) kept = r ∷ kept
surviving (repair r) (Err why) kept = kept
surviving undo (Ok m) [] = []
surviving undo (Ok m) (r ∷ kept) = kept
surviving undo (Err why) kept = kept

unfoldable pub survivors_over : List Repair → List Call → State → List Repair
unfolding did
survivors_over kept [] s = kept
survivors_over kept (c ∷ cs) s = survivors_over (surviving c (did c s).answer kept) cs (did c s).after

-- in the order in which they were made
unfoldable pub survivors : List Call → State → List Repair
unfolding survivors_over
survivors cs s = reverse (survivors_over [] cs s)

-- ---- "applying the rules to the raw recording, in order"

unfoldable pub replay : List Repair → State → State
unfolding run
replay rs s = run (map repair rs) s

-- ---- "on a freshly opened recording"

-- any words, any marks with the counts worked out from them, a journal of so many words, all 0, none used
abbrev pub fresh : List ℕ → List ℕ → ℕ → State
fresh words marks room = state words marks (counted marks) (replicate room 0) 0

-- an accepted opening gives such a recording, under the raw marks that it sets
abbrev pub OpeningIsFresh : Type 0
OpeningIsFresh =
    (marks : List ℕ) (s : State) → (opened_with marks s).answer ≡ Ok 0
    → (opened_with marks s).after ≡ fresh s.samples marks (length s.journal)

-- a mark is a byte
abbrev pub Bytes : List ℕ → Type 0
Bytes marks = (i : ℕ) → get_or marks i 0 < 256

-- request P2: where a recording opens as it was received, "raw marks are 0 or 6", whatever marks are lent
abbrev pub RawMarks : Type 0
RawMarks =
    (marks : List ℕ) (i : ℕ) → let raw = get_or (map kept_mark marks) i 0 in (raw ≡ measured) ⊎ (raw ≡ not_received)

-- ---- What the rule of a repair keeps to, whatever the samples

-- the named places ascend, from `least` on, and lie below n
abbrev pub Ascending : ℕ → ℕ → List Placed → Type 0
Ascending n least [] = Unit {0}
Ascending n least (c ∷ cs) = (least ≤ c.place) × (c.place < n) × Ascending n (c.place + 1) cs

-- a plan refuses, or sets one of the marks that a repair sets, at such places
abbrev pub Keeps : ℕ → Plan → Type 0
Keeps n (refuse why) = Unit {0}
Keeps n (change mark cs) = (made mark ≡ true) × Ascending n 0 cs

-- so does every plan of a repair
abbrev pub LawfulRepair : Repair → Type 0
LawfulRepair r = (samples : List ℕ) → Keeps (length samples) (r samples)

-- and so does every repair of a sequence
abbrev pub Lawful : List Call → Type 0
Lawful [] = Unit {0}
Lawful (repair r ∷ cs) = LawfulRepair r × Lawful cs
Lawful (undo ∷ cs) = Lawful cs

-- ---- The demand

-- something holds of every freshly opened recording, whatever its words, marks and journal, with every sequence of calls
abbrev pub AfterAny : (State → List Call → Type 0) → Type 0
AfterAny P = (words marks : List ℕ) (room : ℕ) (cs : List Call) → Bytes marks → Lawful cs → P (fresh words marks room) cs

-- samples, marks, counts, journal and used are those that the survivors alone give; request P5: "Demand 3 covers the counts"
abbrev pub Demand3 : Type 0
Demand3 = AfterAny (λ raw cs. run cs raw ≡ replay (survivors cs raw) raw)
