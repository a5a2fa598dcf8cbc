-- The three demands, of the calls of this library (Calls.antt): each in its words, and then as statements. They are proved as
-- theorems of the same names, written small, in proofs/Demands.antt, which nobody has to read.
use Rattle.std.specs.Prelude.{ℕ, ◌+◌, ◌≤◌, ◌<◌, ◌≡◌, List, [], ◌∷◌, ◌++◌, reverse, ◌⊎◌, length, get_or, replicate, eqb, Float}
use Rattle.std.specs.Prelude.{if◌then◌else◌}
use Rattle.recording.specs.Recording.{State, Placed, change}
use Rattle.recording.specs.Marks.{measured, not_received}
use Rattle.recording.specs.Counts as blocks
use Rattle.recording.specs.Question.{marks_say, span_verdict}
use Rattle.recording.specs.History as single
use Rattle.recording.specs.Consequences.{Among, MadeOf, AllName, closings, returned}
use Rattle.std.specs.Prelude.{Ok, Err}
use Rattle.recording.specs.Answer.{Verdict}
use Rattle.std.specs.Prelude.{Ok, true}
use Rattle.inpaint.specs.Gap.{gap_plan}
use Rattle.inpaint.specs.Auto.{scannable}
use Rattle.inpaint.specs.Runs.{single_calls, scan_calls, run_answers, first_refusal}
use Rattle.splice.specs.Several.{spans, AnswerLists, lists_wrong}
use Rattle.declip.specs.Declip.{declip_plan}
use Rattle.decrackle.specs.Decrackle.{decrackle_plan}
use Rattle.dequant.specs.Dequant.{dequantize_plan, cosparse_plan}
use Rattle.proposed.specs.Proposed.{proposed_plan}
use Rattle.cathar.specs.Calls.{Call, gap, gaps, scan, declip, decrackle, dequantize, cosparse, proposed, undo, ran}
use Rattle.cathar.specs.Calls.{Opening, opens, opening}
use Rattle.cathar.specs.Refusals.{turned_away, opening_turned_away, can_give, tested_by_opening}

-- ---- What a call counts as

-- One repair, by its rule, which makes of the samples a plan: the mark and the named samples with their new words, or a refusal. Or an undo;
-- or an automatic scan, which counts as one repair for each run that qualifies; or several gaps, which count as one for each span.
pub data Kind : Type 0 where
  repairs : single.Repair → Kind
  undoes : Kind
  scans : (rate : ℕ) (millis : Float) (held : ℕ) → List Float → Kind
  each_of : List single.Call → Kind

-- request P6: "Demand 3 reads the list as its single repairs", which are none where 4 turns it away
abbrev pub span_repairs : List ℕ → List ℕ → ℕ → List Float → AnswerLists → List single.Call
span_repairs starts lens passes work lists =
    if lists_wrong starts lens lists then [] else single_calls passes (length work) (spans starts lens)

abbrev pub kind : Call → Kind
kind (gap start len passes work) = repairs (gap_plan start len passes (length work))
kind (gaps starts lens passes work lists) = each_of (span_repairs starts lens passes work lists)
kind (scan rate millis held work) = scans rate millis held work
kind (declip threshold work) = repairs (declip_plan threshold (length work))
kind (decrackle start sensitivity work) = repairs (decrackle_plan start sensitivity (length work))
kind (dequantize bits strength work) = repairs (dequantize_plan bits strength (length work))
kind (cosparse bits strength iterations work) = repairs (cosparse_plan bits strength iterations (length work))
kind (proposed threshold proposal) = repairs (proposed_plan threshold proposal)
kind undo = undoes

-- ---- 1. "Any samples and settings end in a repair or in a numbered refusal, given exactly when its rule says. A refusal changes
-- nothing."

-- "end in a repair or in a numbered refusal" is what the exported functions promise: none has a condition, and what each leaves equals
-- `ran` of its call, or `opening`. An equation leaves no second outcome.

-- "given exactly when its rule says": the number of a call is that of the first line of the table that applies, in the order of the tests
-- (Refusals.antt), or 0. Of a scan that no line turns away it is that of the first of its runs that is refused, or 0.
abbrev pub first_of_runs : Kind → State → ℕ
first_of_runs (repairs r) s = 0
first_of_runs undoes s = 0
first_of_runs (scans rate millis held work) s = first_refusal (run_answers rate millis held work s)
first_of_runs (each_of cs) s = 0

abbrev pub GivenExactlyWhen : Type 0
GivenExactlyWhen =
    (c : Call) (s : State) → (ran c s).number ≡ (let k = turned_away c s in if eqb k 0 then first_of_runs (kind c) s else k)

abbrev pub OpeningGivenExactlyWhen : Type 0
OpeningGivenExactlyWhen = (o : Opening) (s : State) → (opening o s).number ≡ opening_turned_away s

-- which numbers a call can give at all
abbrev pub OnlyThese : Type 0
OnlyThese = (c : Call) (s : State) → ((ran c s).number ≡ 0) ⊎ Among (ran c s).number (can_give c)

abbrev pub OpeningOnlyThese : Type 0
OpeningOnlyThese = (o : Opening) (s : State) → ((opening o s).number ≡ 0) ⊎ Among (opening o s).number tested_by_opening

-- "A refusal changes nothing": neither does a call that a line of the table turns away, nor an opening. Each single repair of a scan or of
-- several gaps does the same (`RefusalChangesNothing` of the crate `recording`).
abbrev pub RefusalChangesNothing : Type 0
RefusalChangesNothing = (c : Call) (s : State) → 0 < turned_away c s → (ran c s).after ≡ s

abbrev pub RefusedOpeningChangesNothing : Type 0
RefusedOpeningChangesNothing = (o : Opening) (s : State) → 0 < opening_turned_away s → (opening o s).after ≡ s

-- ---- 2. "An accepted repair gives, bit for bit, the samples of document 01's rules over IEEE 754, and marks exactly the samples it
-- names."

-- the rules of a call: the single repairs and undos that it counts as. An automatic scan counts as none where a line of the table turns
-- it away.
abbrev pub scanned : ℕ → Float → ℕ → List Float → State → List single.Call
scanned rate millis held work s =
    elim (scannable rate millis held s) [ Ok m ↦ scan_calls rate millis held work s | Err why ↦ [] ]

abbrev pub counted : Kind → State → List single.Call
counted (repairs r) s = single.repair r ∷ []
counted undoes s = single.undo ∷ []
counted (scans rate millis held work) s = scanned rate millis held work s
counted (each_of cs) s = cs

abbrev pub rules : Call → State → List single.Call
rules c s = counted (kind c) s

-- the recording after a call is that after its rules, one after the other
abbrev pub CallIsItsRules : Type 0
CallIsItsRules = (c : Call) (s : State) → (ran c s).after ≡ single.run (rules c s) s

-- and each of them is lawful
abbrev pub RulesAreLawful : Type 0
RulesAreLawful = (c : Call) (s : State) → single.Lawful (rules c s)

-- The demand: where a call that counts as one repair is accepted, its rule makes a plan; the call leaves the plan's words and, at exactly
-- the samples that the plan names, its mark; and its one figure is how many these are. Each single repair of a scan or of several gaps does
-- the same (`AcceptedAsRuled` of the crate `recording`).
abbrev pub Demand2 : Type 0
Demand2 =
    (c : Call) (s : State) (r : single.Repair) → kind c ≡ repairs r → (ran c s).number ≡ 0
    → (mark : ℕ) × (cs : List Placed) × (r s.samples ≡ change mark cs)
    × MadeOf mark cs s (ran c s).after × ((ran c s).figures ≡ length cs ∷ [])

-- ---- 3. "After any sequence of repairs, refusals and undos on a freshly opened recording, samples, marks and journal equal those
-- got by applying the rules to the raw recording, in order, for the accepted repairs that named a sample and were not undone."

-- the recording after a sequence of calls
abbrev pub after : List Call → State → State
after [] s = s
after (c ∷ cs) s = after cs (ran c s).after

-- "a freshly opened recording": an accepted opening left it, one of the two
pub record Opened (raw : State) : Type 0 where
  pub way : Opening
  pub lent : State
  pub accepted : (opens way lent).answer ≡ Ok 0
  pub leaves : (opens way lent).after ≡ raw

-- something holds "After any sequence of repairs, refusals and undos" on every such recording
abbrev pub AfterAny : (State → List Call → Type 0) → Type 0
AfterAny P = (raw : State) (cs : List Call) → Opened raw → P raw cs

-- "the rules", call after call
abbrev pub all_rules : List Call → State → List single.Call
all_rules [] s = []
all_rules (c ∷ cs) s = rules c s ++ all_rules cs (ran c s).after

-- "the accepted repairs that named a sample and were not undone", "in order"
abbrev pub survivors : List Call → State → List single.Repair
survivors cs raw = single.survivors (all_rules cs raw) raw

-- the demand
abbrev pub Demand3 : Type 0
Demand3 = AfterAny (λ raw cs. after cs raw ≡ single.replay (survivors cs raw) raw)

-- ---- What follows from it

-- replayed, each survivor is accepted again and names a sample
abbrev pub SurvivorsStand : Type 0
SurvivorsStand = AfterAny (λ raw cs. AllName (survivors cs raw) raw)

-- undoing all returns every raw bit, with marks and journal as they were opened; and undoing on changes nothing
abbrev pub UndoingAll : Type 0
UndoingAll = AfterAny (λ raw cs. (k : ℕ) → length (survivors cs raw) ≤ k → after (replicate k undo) (after cs raw) ≡ raw)

-- "a sample marked measured still has its raw bits"
abbrev pub MeasuredIsRaw : Type 0
MeasuredIsRaw =
    AfterAny
    (λ raw cs. (i : ℕ) → get_or (after cs raw).marks i 0 ≡ measured → get_or (after cs raw).samples i 0 ≡ get_or raw.samples i 0)

-- and was so marked when the recording opened: it was received
abbrev pub MeasuredWasReceived : Type 0
MeasuredWasReceived =
    AfterAny
    (λ raw cs. (i : ℕ) → get_or (after cs raw).marks i 0 ≡ measured → get_or raw.marks i 0 ≡ measured)

-- request P2: "demand 3's raw marks are 0 or 6", whatever a caller lends
abbrev pub RawIsMeasuredOrNotReceived : Type 0
RawIsMeasuredOrNotReceived =
    (raw : State) → Opened raw → (i : ℕ) → (get_or raw.marks i 0 ≡ measured) ⊎ (get_or raw.marks i 0 ≡ not_received)

-- "No repair sets mark 6; undo brings it back": a sample marked 6 was so marked when the recording opened, and has the word that it had then
abbrev pub NotReceivedIsRaw : Type 0
NotReceivedIsRaw =
    AfterAny
    (λ raw cs.
    (i : ℕ)
    → get_or (after cs raw).marks i 0 ≡ not_received
    → (get_or (after cs raw).samples i 0 ≡ get_or raw.samples i 0) × (get_or raw.marks i 0 ≡ not_received))

-- ---- Was this second measured? (request P5)

-- "Demand 3 covers the counts": they are a part of the recording, in `Demand3` above; and they "equal those worked out from the marks"
abbrev pub CountsAreWorkedOut : Type 0
CountsAreWorkedOut = AfterAny (λ raw cs. (after cs raw).counts ≡ blocks.counted (after cs raw).marks)

-- what the question answers of a recording. Its "premise is that only our calls wrote" marks and counts: `AfterAny` says so.
abbrev pub measured_throughout : State → ℕ → ℕ → Verdict
measured_throughout s start len = span_verdict s.marks s.counts start len

-- "its answer must equal looking at each mark": of a span within the recording
abbrev pub AnswerIsEachMark : Type 0
AnswerIsEachMark =
    AfterAny
    (λ raw cs.
    let s = after cs raw in
    (start len : ℕ) → start + len ≤ length s.marks → measured_throughout s start len ≡ Ok (marks_say s.marks start len))

-- so, whatever calls were made since the recording opened, a yes means that every sample of the span has its raw word, and was received
abbrev pub YesIsRaw : Type 0
YesIsRaw =
    AfterAny
    (λ raw cs.
    let s = after cs raw in
    (start len : ℕ) → measured_throughout s start len ≡ Ok true
    → (i : ℕ) → start ≤ i → i < start + len → (get_or s.samples i 0 ≡ get_or raw.samples i 0) × (get_or raw.marks i 0 ≡ measured))

-- ---- The journal

-- the journal's m and mark, entry by entry, the last first, are those that the survivors returned and set
abbrev pub EntriesAreSurvivors : Type 0
EntriesAreSurvivors =
    AfterAny
    (λ raw cs.
    closings (length (survivors cs raw)) (after cs raw).journal (after cs raw).used ≡ reverse (returned (survivors cs raw) raw))
