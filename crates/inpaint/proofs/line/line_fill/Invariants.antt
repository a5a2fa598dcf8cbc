-- `inpaint::line::line_fill` meets its contract. The loop's invariant: storing the samples that are left gives the
-- whole line. Assumes nothing.
use Rattle.std.proofs.Common.{◌≡◌, ◌-◌}
use lib.Seq.{sets}
use Rattle.inpaint.specs.Gap.{line_from}
use Rattle.inpaint.proofs.line.line_fill.Given as goal

abbrev pub invariant-loop-i : goal.invariant-loop-i
invariant-loop-i l = sets l.gap l.i (line_from l.left l.right l.len l.i (l.len - l.i)) ≡ line_from l.left l.right l.len 0 l.len
