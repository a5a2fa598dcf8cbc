-- Which runs the automatic scan takes: "Runs of both kinds are those of the recording as the call began", whatever the repair of one
-- has made of the samples when the next is looked for. So "Each run is one gap repair" makes the scan a sequence of calls, each
-- with its own answer. Definitions, and then two statements, which are proved as `scan_is_its_runs` and
-- `scan_counts_its_runs` of proofs/Scans.antt, which nobody has to read.
use Rattle.std.specs.Prelude.{◌≡◌, ℕ, zero, suc, ◌+◌, List, [], ◌∷◌, length, Float}
use Rattle.recording.specs.Recording.{State}
use Rattle.std.specs.Prelude.{if◌then◌else◌}
use Rattle.recording.specs.Runs.{run_length}
use Rattle.recording.specs.Answers.{reason_number}
use Rattle.recording.specs.History.{Call, repair, did, run}
use Rattle.recording.specs.Answer.{Answer}
use Rattle.std.specs.Prelude.{Ok, Err}
use Rattle.inpaint.specs.Gap.{gap_plan}
use Rattle.inpaint.specs.declared.Stretch as code
use Rattle.inpaint.specs.Auto.{limit, continues, kept, qualifies, gap_at, gap_length, starts, source_passes, scannable, automatic}

-- a gap, by its start and its length: that of a dropout run, or one that is handed over
abbrev pub Stretch : Type 0
Stretch = code.Stretch

abbrev pub stretch : ℕ → ℕ → Stretch
stretch start len = record { start = start; len = len }

-- the runs of the places from `from` on that qualify, ascending: those that begin at one of the n places from i on
unfoldable pub runs_among : List ℕ → ℕ → ℕ → ℕ → ℕ → ℕ → List Stretch
unfolding run_length continues qualifies kept
runs_among samples most held from i zero = []
runs_among samples most held from i (suc n) =
    let later = runs_among samples most held from (i + 1) n in
    if starts samples most held from i then stretch (gap_at samples i) (gap_length samples i) ∷ later else later

-- those of the whole recording
abbrev pub runs_of : List ℕ → ℕ → ℕ → List Stretch
runs_of samples most held = runs_among samples most held 0 0 (length samples)

-- the calls that repair gaps one after the other, each with so many passes and so many doubles of workspace
abbrev pub single_calls : ℕ → ℕ → List Stretch → List Call
single_calls passes room [] = []
single_calls passes room (r ∷ rs) = repair (gap_plan r.start r.len passes room) ∷ single_calls passes room rs

-- "Each run is one gap repair": those of runs
abbrev pub gap_calls : ℕ → List Stretch → List Call
gap_calls room rs = single_calls source_passes room rs

-- "with its own answer": what calls answer, one after the other
unfoldable pub answers : List Call → State → List Answer
unfolding did
answers [] s = []
answers (c ∷ cs) s = (did c s).answer ∷ answers cs (did c s).after

-- the calls of a scan, and what each of its runs answers
abbrev pub scan_calls : ℕ → Float → ℕ → List Float → State → List Call
scan_calls rate ms held work s = gap_calls (length work) (runs_of s.samples (limit ms rate) held)

abbrev pub run_answers : ℕ → Float → ℕ → List Float → State → List Answer
run_answers rate ms held work s = answers (scan_calls rate ms held work s) s

-- how many of these answers are acceptances
abbrev pub acceptances : List Answer → ℕ
acceptances [] = 0
acceptances (Ok m ∷ later) = 1 + acceptances later
acceptances (Err why ∷ later) = acceptances later

-- "number of the first refusal or 0"
abbrev pub first_refusal : List Answer → ℕ
first_refusal [] = 0
first_refusal (Ok m ∷ later) = first_refusal later
first_refusal (Err why ∷ later) = reason_number why

-- something holds of every scan that refusals 1, 14 and 2 to 4 do not turn away
abbrev pub OfEveryScan : (ℕ → Float → ℕ → List Float → State → Type 0) → Type 0
OfEveryScan P =
    (rate : ℕ) (ms : Float) (held : ℕ) (work : List Float) (s : State) → scannable rate ms held s ≡ Ok 0 → P rate ms held work s

-- the recording after the scan is the recording after these calls
abbrev pub ScanIsItsRuns : Type 0
ScanIsItsRuns = OfEveryScan (λ rate ms held work s. (automatic rate ms held work s).after ≡ run (scan_calls rate ms held work s) s)

-- "Returned: runs qualified, runs repaired, number of the first refusal or 0."
abbrev pub ScanCountsItsRuns : Type 0
ScanCountsItsRuns =
    OfEveryScan
    (λ rate ms held work s.
    ((automatic rate ms held work s).qualified ≡ length (runs_of s.samples (limit ms rate) held))
    × ((automatic rate ms held work s).repaired ≡ acceptances (run_answers rate ms held work s))
    × ((automatic rate ms held work s).refused ≡ first_refusal (run_answers rate ms held work s)))
