-- The program's report, from what decoding and the scan ensure. Assumes nothing.
use Prim.Native.Nat.{ℕ, ◌≤◌}
use native.Mathlib.Omega.{arith}
use mathlib.Core.Path.{◌≡◌, ap, sym, ◌∙◌}
use mathlib.Core.List.{List}
use lib.ListN.{length, take, replicate}
use lib.Seq.{sets, length-sets}
use lib.Ieee.{Float, binary64, of_bits}
use Rattle.leaves.specs.Arithmetic.{nought}
use Rattle.leaves.proofs.Stores.{stored_over}
use Rattle.inpaint.specs.Auto.{Scan}
use Rattle.monitor.specs.Scanning.{most_input, journal_words, most_blocks, unopened, workspace, Report, report_of}
use Rattle.recording.specs.Recording.{State, state}
use Rattle.recording.specs.Counts.{blocks}
use Rattle.monitor.proofs.Scanning.{empty_work, lends}
use Rattle.wire.specs.Wire.{decoded}
use Rattle.wire.proofs.Laws.{length_decoded}
use Rattle.repair.specs.Program.{repairing, repairing_orders, reported}

-- all samples are decoded, and the code's workspace begins with its 0.0
pub reports : (bytes before words marks orders left : List ℕ) (k : ℕ) (scanned : Scan) → length marks ≡ length before
    → length before ≤ most_input → words ≡ sets before 0 (decoded bytes 0 (length before))
    → k ≡ blocks (length words)
    → let lent = state words marks (take k (replicate most_blocks 0)) (replicate journal_words 0) 0 in
    (scanned ≡ repairing (replicate workspace (of_bits binary64 0)) lent)
    × (left ≡ repairing_orders (replicate workspace (of_bits binary64 0)) lent orders)
    → report_of scanned left ≡ reported bytes marks orders
unfolding reported
reports bytes before words marks orders left k scanned count few read ek h =
    let lent = state words marks (take k (replicate most_blocks 0)) (replicate journal_words 0) 0 in
    let long : length words ≡ length before = ap length read ∙ length-sets before 0 (decoded bytes 0 (length before)) in
    let told : List Float → State → Report = λ work s. report_of (repairing work s) (repairing_orders work s orders) in
    let whole : words ≡ decoded bytes 0 (length before) =
    read ∙ stored_over before (decoded bytes 0 (length before)) (length_decoded bytes 0 (length before)) in
    ap (λ (c : Scan). report_of c left) h.0
    ∙ ap (report_of (repairing (replicate workspace (of_bits binary64 0)) lent)) h.1
    ∙ ap (told (replicate workspace (of_bits binary64 0))) (lends words marks k ek (omega arith))
    ∙ ap (λ (work : List Float). told work (unopened words marks)) empty_work
    ∙ ap (λ (l : List ℕ). told (replicate workspace nought) (unopened l marks)) whole
    ∙ sym (ap (λ (n : ℕ). told (replicate workspace nought) (unopened (decoded bytes 0 n) marks)) count)
