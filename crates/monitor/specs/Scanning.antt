-- The scan that the programs make, and what there is to report of it: document 01's section "The program", whose sentences the
-- comments quote. Definitions, and then three statements, which are proved in proofs/Suffices.antt under the same names, written
-- small.
use Rattle.std.specs.Prelude.{ℕ, ◌≤◌, ◌≡◌, List, length, replicate, Float}
use Rattle.leaves.specs.Arithmetic.{one}
use Rattle.recording.specs.Recording.{State, state}
use Rattle.recording.specs.Counts.{blocks}
use Rattle.recording.specs.History.{fresh}
use Rattle.inpaint.specs.Auto.{Scan, limit, held_run, automatic}
use Rattle.inpaint.specs.Order.{scan_orders}
use Rattle.inpaint.specs.Runs.{run_answers}
use Rattle.inpaint.specs.Consequences.{NoneHas}

-- ---- The scan

-- "at most 4,096" samples
abbrev pub most_input : ℕ
most_input = 4096

-- "rate 48,000"
abbrev pub rate : ℕ
rate = 48000

-- "the limit 1 ms"
abbrev pub limit_ms : Float
limit_ms = one

-- "the program keeps 16" (request P11 of document 02), P1's number: from so many equal words on they are a dropout
abbrev pub held_words : ℕ
held_words = held_run

-- "The program's journal becomes 12,800 words" (request P1 of document 02)
abbrev pub journal_words : ℕ
journal_words = 12800

-- the counts of the blocks that 4,096 samples make
abbrev pub most_blocks : ℕ
most_blocks = 16

-- what a program opens: words and marks, with a count for each block and the journal, which are all 0
abbrev pub unopened : List ℕ → List ℕ → State
unopened words marks = state words marks (replicate (blocks (length words)) 0) (replicate journal_words 0) 0

-- the doubles that a gap of 48 samples needs at most: a window of 48 + 2 * 1024, a band of 48 rows of 49, 3 * 48 and 4 * 49
abbrev pub workspace : ℕ
workspace = 4788

-- "It runs `inpaint_auto` at rate 48,000 with the limit 1 ms (48 samples)", on a recording that was opened
unfoldable pub scanning : List Float → State → Scan
unfolding automatic
scanning work s = automatic rate limit_ms held_words work s

-- and what it leaves in the list of the models' orders (request P8 of document 02)
unfoldable pub scanning_orders : List Float → State → List ℕ → List ℕ
unfolding scan_orders
scanning_orders work s orders = scan_orders rate limit_ms held_words work s orders

-- ---- The report

-- what there is to report after a scan: "qualified", "repaired", "refused", and "place, mark, word" of each sample, and its model's order,
-- which "the program adds .. as a fourth number on lines with mark 1" (request P8)
pub record Report : Type 0 where
  pub qualified : ℕ
  pub repaired : ℕ
  pub refused : ℕ
  pub samples : List ℕ
  pub marks : List ℕ
  pub orders : List ℕ

-- from what is counted and left, and of a scan with its list of orders
abbrev pub report : ℕ → ℕ → ℕ → List ℕ → List ℕ → List ℕ → Report
report q r k s m o = record { qualified = q; repaired = r; refused = k; samples = s; marks = m; orders = o }

abbrev pub report_of : Scan → List ℕ → Report
report_of c orders = report c.qualified c.repaired c.refused c.after.samples c.after.marks orders

-- ---- What suffices

-- "the limit 1 ms (48 samples)"
abbrev pub LimitIs48 : Type 0
LimitIs48 = limit limit_ms rate ≡ 48

-- "which always suffices": of a recording of at most 4,096 samples no run is refused for want of room in the journal
abbrev pub JournalSuffices : Type 0
JournalSuffices =
    (words marks : List ℕ) (work : List Float) → length words ≤ most_input
    → NoneHas 9 (run_answers rate limit_ms held_words work (fresh words marks journal_words))

-- and none of any recording for want of workspace
abbrev pub WorkspaceSuffices : Type 0
WorkspaceSuffices =
    (words marks : List ℕ) (room : ℕ) (work : List Float) → workspace ≤ length work
    → NoneHas 6 (run_answers rate limit_ms held_words work (fresh words marks room))
