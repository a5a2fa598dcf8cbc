-- The program `wav`, in the words of request P12 of document 02 and of the plan for it, which the comments quote. It reads a file by the
-- rules of the crate `riff`, opens the recording, scans it as `repair` does (`monitor`, specs/Scanning.antt), but at the file's own rate,
-- and writes the file of what the scan leaves. Definitions, and then three statements, which are proved in proofs/Suffices.antt and
-- Limits.antt under the same names, written small.
use Rattle.std.specs.Prelude.{ℕ, ◌≤◌, List, [], length, take, replicate, Float, Result, Ok, Err, if◌then◌else◌}
use Rattle.leaves.specs.Arithmetic.{nought, one}
use Rattle.recording.specs.Recording.{State, state, opened}
use Rattle.recording.specs.Counts.{blocks}
use Rattle.recording.specs.History.{fresh}
use Rattle.recording.specs.declared.Reason.{Reason}
use Rattle.recording.specs.declared.Reason.TheVariants.{Setting}
use Rattle.recording.specs.Answer.{Answer}
use Rattle.inpaint.specs.Auto.{Scan, refused_number, allowed, limit, held_run, automatic}
use Rattle.inpaint.specs.Order.{scan_orders}
use Rattle.inpaint.specs.Runs.{run_answers}
use Rattle.inpaint.specs.Consequences.{NoneHas}
use Rattle.monitor.specs.Scanning.{Report, report, report_of}
use Rattle.riff.specs.Wav.{Heard, unheard, wav_read, wav_written}
use Rattle.wavfile.specs.declared.Repaired.{Repaired}

-- ---- What the program takes

-- "the WAV file IN of at most 262,144 samples"
abbrev pub most_input : ℕ
most_input = 262144

-- the bytes of a name
abbrev pub most_name : ℕ
most_name = 4096

-- ---- The scan

-- "with the limit of 1 ms"
abbrev pub limit_ms : Float
limit_ms = one

-- "the program keeps 16" (request P11): from so many equal words on they are a dropout
abbrev pub held_words : ℕ
held_words = held_run

-- the counts of the blocks that so many samples make, and the words of the journal
abbrev pub most_blocks : ℕ
most_blocks = 1024

abbrev pub journal_words : ℕ
journal_words = 800996

-- the doubles that a gap of 384 samples needs at most: a window of 384 + 2 * 1536, a band of 384 rows of 129, 3 * 384 and 4 * 129
abbrev pub workspace : ℕ
workspace = 54660

-- what is opened: samples and marks, with a count for each block and the journal, which are all 0
abbrev pub unopened : List ℕ → List ℕ → State
unopened words marks = state words marks (replicate (blocks (length words)) 0) (replicate journal_words 0) 0

-- "opens it, scans it for dropouts at the file's own rate"
unfoldable pub scanning : ℕ → List Float → State → Scan
unfolding opened automatic
scanning rate work s = automatic rate limit_ms held_words work (opened s).after

-- and what that leaves in the list of the models' orders
unfoldable pub scanning_orders : ℕ → List Float → State → List ℕ → List ℕ
unfolding opened scan_orders
scanning_orders rate work s orders = scan_orders rate limit_ms held_words work (opened s).after orders

-- the report of samples with lent marks and a lent list for the orders, with counts, an empty journal and an empty workspace of the
-- program's own
unfoldable pub reported : ℕ → List ℕ → List ℕ → List ℕ → Report
unfolding scanning scanning_orders
reported rate words marks orders =
    let work = replicate workspace nought in
    report_of (scanning rate work (unopened words marks)) (scanning_orders rate work (unopened words marks) orders)

-- ---- The file

-- what the reader of WAV files gives, but a file of "a rate that the scan turns away" is refused by 4, which is the scan's number for it
unfoldable pub taken : List ℕ → List ℕ → List ℕ → Heard
unfolding wav_read
taken file samples marks =
    let h = wav_read file samples marks in
    if allowed h.rate limit_ms then h else unheard Setting h.samples h.marks

-- what there is to tell of a file: the bytes of the one that is written, or why it is turned away; the rate; the report of the scan; and
-- the space, in whose first bytes the written file stands
pub record Told : Type 0 where
  pub answer : Answer
  pub samples : ℕ
  pub rate : ℕ
  pub scan : Report
  pub space : List ℕ

abbrev pub telling : Answer → ℕ → ℕ → Report → List ℕ → Told
telling a n rate scan space = record { answer = a; samples = n; rate = rate; scan = scan; space = space }

-- of samples that were read: "writes the WAV file OUT" "at the rate that was read"
unfoldable pub rewritten : ℕ → List ℕ → List ℕ → List ℕ → List ℕ → Told
unfolding reported wav_written
rewritten rate samples marks orders space =
    let scanned = reported rate samples marks orders in
    let w = wav_written scanned.samples rate space in
    telling w.answer (length samples) rate scanned w.out

-- of a file that is turned away nothing is scanned, and the space stays
abbrev pub turned_away : Answer → List ℕ → Told
turned_away a space = telling a 0 0 (report 0 0 0 [] [] []) space

-- of a file that was read, by the answer to it, with a lent list for the orders
abbrev pub of_taken : Answer → Heard → List ℕ → List ℕ → Told
of_taken (Ok m) h orders space = rewritten h.rate (take m h.samples) (take m h.marks) (take m orders) space
of_taken (Err why) h orders space = turned_away (Err why) space

-- of the file in the first n bytes of the space, with lent rooms for samples and marks
unfoldable pub told : ℕ → List ℕ → List ℕ → List ℕ → List ℕ → Told
unfolding taken rewritten
told n space samples marks orders =
    let h = taken (take n space) samples marks in
    of_taken h.answer h orders space

-- the same, as the code has it: of all samples that are lent,
abbrev pub tells_all : Repaired → List ℕ → List ℕ → List ℕ → List ℕ → Told
tells_all r samples marks orders space =
    let s = r.scanned in
    telling r.written r.samples r.rate (report s.qualified s.repaired (refused_number s.refused) samples marks orders) space

-- and of rooms, whose first places they stand in, as many as it says
abbrev pub tells_first : Result Repaired Reason → List ℕ → List ℕ → List ℕ → List ℕ → Told
tells_first (Ok r) samples marks orders space =
    let m = r.samples in
    tells_all r (take m samples) (take m marks) (take m orders) space
tells_first (Err why) samples marks orders space = telling (Err why) 0 0 (report 0 0 0 [] [] []) space

-- ---- What suffices

-- of at most 262,144 samples no run is refused for want of room in the journal, at any rate
abbrev pub JournalSuffices : Type 0
JournalSuffices =
    (rate : ℕ) (words marks : List ℕ) (work : List Float) → length words ≤ most_input
    → NoneHas 9 (run_answers rate limit_ms held_words work (fresh words marks journal_words))

-- at rates up to 384,000 a second the limit is at most 384 samples
abbrev pub LimitAtMost384 : Type 0
LimitAtMost384 = (rate : ℕ) → rate ≤ 384000 → limit limit_ms rate ≤ 384

-- so at these none is refused for want of workspace
abbrev pub WorkspaceSuffices : Type 0
WorkspaceSuffices =
    (rate : ℕ) (words marks : List ℕ) (room : ℕ) (work : List Float) → rate ≤ 384000 → workspace ≤ length work
    → NoneHas 6 (run_answers rate limit_ms held_words work (fresh words marks room))
