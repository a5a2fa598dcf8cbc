-- What follows from the rules of a gap, of the scan and of the model's order. Statements only, each proved under the same name,
-- written small, in Plans.antt, Lawful.antt, Scans.antt, Rooms.antt, Orders.antt or MadeByModel.antt of proofs/, which nobody has to
-- read.
use Rattle.std.specs.Prelude.{◌≡◌, ℕ, ◌+◌, ◌-◌, ◌*◌, ◌<◌, ◌≤◌, false, ◌⊎◌, List, [], ◌∷◌, ◌++◌, length, ◌≢◌, slice_index, Float}
use Rattle.std.proofs.lemmas.List.Edits.{sets}
use Rattle.recording.specs.Answers.{number}
use Rattle.std.specs.Prelude.{if◌then◌else◌}
use Rattle.recording.specs.Recording.{State, state, entry_size}
use Rattle.recording.specs.History.{LawfulRepair, Lawful, run}
use Rattle.recording.specs.Marks.{gap_by_model}
use Rattle.recording.specs.Consequences.{Among}
use Rattle.recording.specs.declared.Reason.{Reason}
use Rattle.recording.specs.Answer.{Answer}
use Rattle.std.specs.Prelude.{Ok, Err}
use Rattle.model.specs.Model.{order_for}
use Rattle.inpaint.specs.Gap.{by_line, needed, gap_plan, gap_repair}
use Rattle.inpaint.specs.Auto.{limit, source_passes, scannable, automatic}
use Rattle.inpaint.specs.Runs.{Stretch, runs_of, single_calls, gap_calls, run_answers, OfEveryScan}
use Rattle.inpaint.specs.Order.{gap_order, scan_orders}

-- ---- Of a gap

-- "Prove that every count gives the answer of one pass."
abbrev pub EveryCount : Type 0
EveryCount = (start len passes room : ℕ) (samples : List ℕ) → gap_plan start len passes room samples ≡ gap_plan start len 1 room samples

-- "what stood in the gap has no say": with any other words in the gap the plan is the same
abbrev pub GapHasNoSay : Type 0
GapHasNoSay =
    (start len passes room : ℕ) (samples words : List ℕ) → length words ≡ len
    → gap_plan start len passes room (sets samples start words) ≡ gap_plan start len passes room samples

-- "At most 289,284.": the doubles of workspace that a gap by the model needs
abbrev pub NeededAtMost : Type 0
NeededAtMost = (n start len : ℕ) → by_line len ≡ false → needed n start len ≤ 289284

-- an accepted repair names all samples of its gap, and there is one at least
abbrev pub AcceptedNamesTheGap : Type 0
AcceptedNamesTheGap =
    (start len passes room m : ℕ) (s : State) → (gap_repair start len passes room s).answer ≡ Ok m → (m ≡ len) × (1 ≤ len)

-- demand 3 covers the repair of a gap
abbrev pub GapLawful : Type 0
GapLawful = (start len passes room : ℕ) → LawfulRepair (gap_plan start len passes room)

-- and that of gaps one after the other
abbrev pub ListLawful : Type 0
ListLawful = (passes room : ℕ) (gs : List Stretch) → Lawful (single_calls passes room gs)

-- ---- Of a scan

-- demand 3 covers the repair of its runs
abbrev pub ScanLawful : Type 0
ScanLawful = (room : ℕ) (runs : List Stretch) → Lawful (gap_calls room runs)

-- a scan that refusals 1, 14 and 2 to 4 turn away changes nothing
abbrev pub RefusedScan : Type 0
RefusedScan =
    (rate : ℕ) (ms : Float) (held : ℕ) (work : List Float) (s : State) (why : Reason) → scannable rate ms held s ≡ Err why
    → (automatic rate ms held work s).after ≡ s

-- something holds of the number of each of these answers, which for an acceptance is 0
abbrev pub EachNumber : (ℕ → Type 0) → List Answer → Type 0
EachNumber P [] = Unit {0}
EachNumber P (a ∷ later) = P (number a) × EachNumber P later

-- "Each run is one gap repair with its own answer from 6 to 9": an acceptance, or a refusal from 6 to 9
abbrev pub OwnAnswers : Type 0
OwnAnswers = OfEveryScan (λ rate ms held work s. EachNumber (λ k. (k ≡ 0) ⊎ ((6 ≤ k) × (k ≤ 9))) (run_answers rate ms held work s))

-- none of these answers has the number k
abbrev pub NoneHas : ℕ → List Answer → Type 0
NoneHas k = EachNumber (λ j. j ≢ k)

-- the most of the journal that runs can take: the words for the samples of a run of two zeros directly before a held run as short as the
-- setting allows, whose gap has one sample less. For 16 they are 55 words for 18 samples.
abbrev pub dense_places : ℕ → ℕ
dense_places held = 2 + held

abbrev pub dense_words : ℕ → ℕ
dense_words held = entry_size 2 + entry_size (held - 1)

-- where the journal has so many free words for the samples, no run is refused for want of room in it, at every setting from 2 on
abbrev pub DenseSuffices : Type 0
DenseSuffices =
    (rate : ℕ) (ms : Float) (held : ℕ) (work : List Float) (s : State) → 2 ≤ held
    → dense_places held * s.used + dense_words held * length s.samples ≤ dense_places held * length s.journal
    → NoneHas 9 (run_answers rate ms held work s)

-- where the workspace suffices for every gap within the limit, no run is refused for want of workspace
abbrev pub WideSuffices : Type 0
WideSuffices =
    (rate : ℕ) (ms : Float) (held : ℕ) (work : List Float) (s : State)
    → ((start len : ℕ) → len ≤ limit ms rate → needed (length s.samples) start len ≤ length work)
    → NoneHas 6 (run_answers rate ms held work s)

-- ---- Of the model's order

-- it is at most p
abbrev pub GapOrderAtMost : Type 0
GapOrderAtMost = (start len passes room : ℕ) (s : State) → gap_order start len passes room s ≤ order_for len

-- every count of passes gives the same
abbrev pub OrderOfEveryCount : Type 0
OrderOfEveryCount = (start len passes room : ℕ) (s : State) → gap_order start len passes room s ≡ gap_order start len 1 room s

-- what stood in the gap has no say in it: with any other words in the gap the order is the same
abbrev pub with_words : ℕ → List ℕ → State → State
with_words start words s = state (sets s.samples start words) s.marks s.counts s.journal s.used

abbrev pub GapHasNoSayInOrder : Type 0
GapHasNoSayInOrder =
    (start len passes room : ℕ) (s : State) (words : List ℕ) → length words ≡ len
    → gap_order start len passes room (with_words start words s) ≡ gap_order start len passes room s

-- ---- Of the list that a scan leaves the orders in, in the header's words

-- it is as long as it was
abbrev pub ListAsLong : Type 0
ListAsLong =
    (rate : ℕ) (ms : Float) (held : ℕ) (work : List Float) (s : State) (orders : List ℕ)
    → length (scan_orders rate ms held work s orders) ≡ length orders

-- a refusal "for the whole scan .. changes nothing, work and orders among it"
abbrev pub RefusedScanKeepsList : Type 0
RefusedScanKeepsList =
    (rate : ℕ) (ms : Float) (held : ℕ) (work : List Float) (s : State) (orders : List ℕ) (why : Reason)
    → scannable rate ms held s ≡ Err why → scan_orders rate ms held work s orders ≡ orders

-- what stands at a place of a run's gap, where `old` stood before: the order of the model that repaired it, or else `old`
abbrev pub order_there : ℕ → Stretch → State → ℕ → ℕ
order_there room r s old =
    elim (gap_repair r.start r.len source_passes room s).answer [
      | Ok m ↦ if by_line r.len then old else gap_order r.start r.len source_passes room s
      | Err why ↦ old
    ]

-- so it is at each place of the gap of each run, which is repaired on what the runs before it left
abbrev pub OrdersAtRuns : Type 0
OrdersAtRuns =
    OfEveryScan
    (λ rate ms held work s.
    (orders : List ℕ) (before later : List Stretch) (r : Stretch) (j : ℕ) → runs_of s.samples (limit ms rate) held ≡ before ++ (r ∷ later)
    → r.start ≤ j → j < r.start + r.len → j < length orders
    → slice_index (scan_orders rate ms held work s orders) j
    ≡ order_there (length work) r (run (gap_calls (length work) before) s) (slice_index orders j))

-- a run of the scan that repaired the sample at place j by the model
pub record MadeByModel (room : ℕ) (s : State) (runs : List Stretch) (j : ℕ) : Type 0 where
  pub before : List Stretch
  pub later : List Stretch
  pub stretch : Stretch
  pub among : runs ≡ before ++ (stretch ∷ later)
  pub from : stretch.start ≤ j
  pub to : j < stretch.start + stretch.len
  pub model : by_line stretch.len ≡ false
  pub m : ℕ
  pub accepted : (gap_repair stretch.start stretch.len source_passes room (run (gap_calls room before) s)).answer ≡ Ok m

-- So where the scan set mark 1, as far as the list goes, the order of the model stands that made the sample: of a freshly opened recording,
-- whose marks are 0 or 6, that is every sample with mark 1.
abbrev pub MarkedHasItsOrder : Type 0
MarkedHasItsOrder =
    OfEveryScan
    (λ rate ms held work s.
    (orders : List ℕ) (j : ℕ) → (slice_index s.marks j ≢ gap_by_model) → slice_index (automatic rate ms held work s).after.marks j ≡ gap_by_model
    → j < length orders
    → (made : MadeByModel (length work) s (runs_of s.samples (limit ms rate) held) j)
    × (slice_index (scan_orders rate ms held work s orders) j
    ≡ gap_order made.stretch.start made.stretch.len source_passes (length work) (run (gap_calls (length work) made.before) s)))

-- "Every other place of it stays: of a sample that was not repaired, .. and what lies behind the samples."
abbrev pub OrdersElsewhere : Type 0
OrdersElsewhere =
    OfEveryScan
    (λ rate ms held work s.
    (orders : List ℕ) (j : ℕ)
    → ((r : Stretch) → Among r (runs_of s.samples (limit ms rate) held) → r.start ≤ j → j < r.start + r.len → ⊥)
    → slice_index (scan_orders rate ms held work s orders) j ≡ slice_index orders j)
