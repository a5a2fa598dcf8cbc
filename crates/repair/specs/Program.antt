-- The program `repair`: document 01's section "The program", whose sentences the comments quote. The scan, the report of it and what
-- suffices stand in the crate `monitor`, specs/Scanning.antt, and words as bytes in the crate `wire`. Definitions only.
use Rattle.std.specs.Prelude.{ℕ, ◌*◌, ◌%◌, Bool, not, ◌||◌, List, length, replicate, ltb, eqb, Float}
use Rattle.leaves.specs.Arithmetic.{nought}
use Rattle.recording.specs.Recording.{State, opened}
use Rattle.inpaint.specs.Auto.{Scan}
use Rattle.monitor.specs.Scanning.{most_input, unopened, workspace, scanning, scanning_orders, Report, report_of}
use Rattle.wire.specs.Wire.{decoded}

-- "Input over 4,096 samples or not a multiple of 4 bytes"
abbrev pub bad_length : ℕ → Bool
bad_length bytes = ltb (4 * most_input) bytes || not (eqb (bytes % 4) 0)

-- the scan of the recording as opening leaves it
unfoldable pub repairing : List Float → State → Scan
unfolding opened scanning
repairing work s = scanning work (opened s).after

-- and what it leaves in the list of the models' orders
unfoldable pub repairing_orders : List Float → State → List ℕ → List ℕ
unfolding opened scanning_orders
repairing_orders work s orders = scanning_orders work (opened s).after orders

-- the report of an input, "little-endian f32 words", with lent marks for its samples and a lent list for the orders, and counts, an empty
-- journal and an empty workspace of the program's own
unfoldable pub reported : List ℕ → List ℕ → List ℕ → Report
unfolding decoded repairing repairing_orders
reported bytes marks orders =
    let words = decoded bytes 0 (length marks) in
    let work = replicate workspace nought in
    report_of (repairing work (unopened words marks)) (repairing_orders work (unopened words marks) orders)
