-- The automatic scan: document 01's `inpaint_auto` paragraph and requests P1 and P11 of document 02, whose sentences the comments quote.
-- Definitions only.
use Rattle.std.specs.Prelude.{ℕ, zero, suc, ◌+◌, ◌-◌, Bool, not, ◌&&◌, ◌||◌, List, length, ◌==◌, nat_eq, nat_le, nat_lt, slice_index, Float}
use Rattle.std.specs.Float.Ieee.{is_nan, eq, mul, div, to_unsigned}
use Rattle.std.specs.Float.Ieee.Scale.{finite}
use Rattle.leaves.specs.Arithmetic.{◌*₃₂◌, ◌/₃₂◌, nought, one, float, count}
use Rattle.leaves.specs.Floats.{larger, in_range}
use Rattle.recording.specs.Answers.{number, reason_number}
use Rattle.recording.specs.Recording.{State, fitting, or_else, work_after}
use Rattle.std.specs.Prelude.{if◌then◌else◌}
use Rattle.recording.specs.Runs.{run_length}
use Rattle.recording.specs.declared.Reason.TheVariants.{Setting}
use Rattle.recording.specs.Answer.{Answer}
use Rattle.recording.specs.declared.Reason.{Reason}
use Rattle.std.specs.Prelude.{Ok, Err, Option, Some, None}
use Rattle.inpaint.specs.Gap.{needed, gap_repair}
use Rattle.inpaint.specs.declared.Stretch.{Stretch}

-- ---- The settings

-- "Rate at most 16,777,216 and finite max_gap_ms, else 4."
abbrev pub allowed : ℕ → Float → Bool
allowed rate ms = nat_le rate 16777216 && finite ms

-- request P11 of document 02: "P1's run length, 2 to 4,096"
abbrev pub held_allowed : ℕ → Bool
held_allowed held = nat_le 2 held && nat_le held 4096

-- "The limit is (max_gap_ms/1000)*rate in f32, raised to 1, cut to a whole number; a product of plus infinity means no limit":
-- plus infinity is cut to the largest number of 64 bits, which no run reaches
unfoldable pub limit : Float → ℕ → ℕ
unfolding mul div count larger to_unsigned
limit ms rate = to_unsigned 64 (larger (ms /₃₂ count 1000 *₃₂ count rate) one)

-- ---- A dropout run: the sentence of document 01 as request P1 of document 02 amends it

-- "samples equal to zero (either sign) or NaN"
unfoldable pub zero_or_nan : ℕ → Bool
unfolding float eq is_nan
zero_or_nan w = eq (float w) nought || is_nan (float w)

-- "in range and not zero": a word that a silent bus can hold
unfoldable pub holdable : ℕ → Bool
unfolding float eq in_range
holdable w = in_range w && not (eq (float w) nought)

-- a run is a stretch of places that continue each other: w continues v, the word before it, where both are zero or NaN, or the two are
-- "equal words, in range and not zero"
unfoldable pub continues : ℕ → ℕ → Bool
unfolding zero_or_nan holdable
continues v w = (zero_or_nan v && zero_or_nan w) || (v == w && holdable w)

abbrev pub continues_at : List ℕ → ℕ → Bool
continues_at samples i = continues (slice_index samples (i - 1)) (slice_index samples i)

-- "a longest run" begins at place i, of the places from `from` on: at the first of them, and wherever a place does not continue the one
-- before it. What stands before place `from` has no say.
abbrev pub run_begins : List ℕ → ℕ → ℕ → Bool
run_begins samples from i = i == from || not (continues_at samples i)

-- how long it is
abbrev pub run_at : List ℕ → ℕ → ℕ
run_at samples i = run_length (continues_at samples) (i + 1) (length samples - (i + 1)) + 1

-- "16 or more equal words"; "15 equal words are sound.": the number that request P1 named. "P1's number becomes this setting" (request
-- P11), so no rule of the scan names it any more: the programs keep it ("the program keeps 16"), and a stored block of version 1 is given it.
abbrev pub held_run : ℕ
held_run = 16

-- a run of so many samples, w the first of them, is a dropout: one of zeros and NaN "if its length is at least 2", one of a word that
-- is held if it has as many as the setting says, `held`, which stands where P1 had "16 or more equal words" ("at 2, a gap of one sample
-- qualifies")
unfoldable pub long_enough : ℕ → ℕ → ℕ → Bool
unfolding zero_or_nan holdable
long_enough held w len = (zero_or_nan w && nat_le 2 len) || (holdable w && nat_le held len)

-- its gap: all of it, but of a held word "its first sample is measured and the rest are the gap". This is how many samples the gap leaves
-- at the run's begin;
unfoldable pub kept : ℕ → ℕ
unfolding holdable
kept w = if holdable w then 1 else 0

-- and where the gap of the run that begins at place i starts, and how long it is
abbrev pub gap_at : List ℕ → ℕ → ℕ
gap_at samples i = i + kept (slice_index samples i)

abbrev pub gap_length : List ℕ → ℕ → ℕ
gap_length samples i = run_at samples i - kept (slice_index samples i)

-- "under the same length limit; the gap must touch neither end"
abbrev pub gap_allowed : ℕ → ℕ → ℕ → ℕ → Bool
gap_allowed n most start len = nat_le len most && nat_lt 0 start && nat_lt (start + len) n

-- a run of so many samples from place i on, w the first of them, qualifies
unfoldable pub qualifies : ℕ → ℕ → ℕ → ℕ → ℕ → ℕ → Bool
unfolding long_enough kept
qualifies n most held w i len = long_enough held w len && gap_allowed n most (i + kept w) (len - kept w)

-- a run that qualifies begins at place i, of the places from `from` on
abbrev pub starts : List ℕ → ℕ → ℕ → ℕ → ℕ → Bool
starts samples most held from i = run_begins samples from i && qualifies (length samples) most held (slice_index samples i) i (run_at samples i)

-- ---- The search

-- "The search answers with the first run from a place on that meets every condition, or with nothing if none exists": by the start and the
-- length of its gap. Of the places from `from` on, among the n from i on.
unfoldable pub next_among : List ℕ → ℕ → ℕ → ℕ → ℕ → ℕ → Option Stretch
unfolding run_length continues qualifies kept
next_among samples most held from i zero = None
next_among samples most held from i (suc n) =
    let on = next_among samples most held from (i + 1) n in
    if starts samples most held from i then Some (record { start = gap_at samples i; len = gap_length samples i }) else on

-- among all of them
abbrev pub next_run : List ℕ → ℕ → ℕ → ℕ → Option Stretch
next_run samples most held from = next_among samples most held from from (length samples - from)

-- ---- The scan

-- how a scan stands: what it has counted, and the memory. "Returned: runs qualified, runs repaired, number of the first refusal
-- or 0."
pub record Scan : Type 0 where
  pub qualified : ℕ
  pub repaired : ℕ
  pub refused : ℕ
  pub after : State
  pub work : List Float

abbrev pub scan : ℕ → ℕ → ℕ → State → List Float → Scan
scan q r k s w = record { qualified = q; repaired = r; refused = k; after = s; work = w }

-- the number of the first refusal, or 0 where there is none
abbrev pub refused_number : Option Reason → ℕ
refused_number None = 0
refused_number (Some why) = reason_number why

-- the source asks for three passes at each run; every count gives the same (`EveryCount` of Consequences.antt)
abbrev pub source_passes : ℕ
source_passes = 3

-- "Each run is one gap repair with its own answer from 6 to 9": one run more, and of its refusal the number, if it is the first
abbrev pub repair_at : Scan → ℕ → ℕ → Scan
repair_at c start len =
    let e = gap_repair start len source_passes (length c.work) c.after in
    let k = number e.answer in
    scan (c.qualified + 1) (c.repaired + (if nat_eq k 0 then 1 else 0)) (if nat_eq c.refused 0 then k else c.refused) e.after
    (work_after nought (needed (length c.after.samples) start len) e.answer c.work)

-- "The scan takes each such answer apart into start and length, or stops"; "the scan goes on after a refused one". From place i
-- on, with at most n runs to come.
unfoldable pub scan_from : ℕ → ℕ → ℕ → ℕ → Scan → Scan
unfolding next_among gap_repair needed
scan_from most held i zero c = c
scan_from most held i (suc n) c =
    elim (next_run c.after.samples most held i) [
      | None ↦ c
      | Some g ↦ scan_from most held (g.start + g.len) n (repair_at c g.start g.len)
    ]

-- refusals 1, 14 and 2 to 4, which "are tested once"; or else an acceptance
unfoldable pub scannable : ℕ → Float → ℕ → State → Answer
unfolding fitting
scannable rate ms held s = or_else (fitting s) (if allowed rate ms && held_allowed held then Ok 0 else Err Setting)

-- the call: refusals 1, 14 and 2 to 4 end it with nothing counted, and else it scans from the first place on
unfoldable pub automatic : ℕ → Float → ℕ → List Float → State → Scan
unfolding scannable scan_from limit
automatic rate ms held w s =
    elim (scannable rate ms held s) [
      | Ok m ↦ scan_from (limit ms rate) held 0 (length s.samples) (scan 0 0 0 s w)
      | Err why ↦ scan 0 0 (reason_number why) s w
    ]
