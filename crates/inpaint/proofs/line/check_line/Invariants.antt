-- `inpaint::line::check_line` meets its contract. The loop's invariant: the test of the samples that are left gives the
-- answer of the whole. Assumes nothing.
use Rattle.std.proofs.Common.{◌≡◌, ◌+◌, ◌-◌}
use Rattle.recording.specs.Recording.{ranged, span}
use Rattle.inpaint.specs.Gap.{line_from}
use Rattle.inpaint.proofs.line.check_line.Given as goal

abbrev pub invariant-loop-i : goal.invariant-loop-i
invariant-loop-i l =
    ranged (span (l.start + l.i) (line_from l.left l.right l.len l.i (l.len - l.i)))
    ≡ ranged (span l.start (line_from l.left l.right l.len 0 l.len))
