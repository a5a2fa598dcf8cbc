-- `wavfile::report::print_stretches` is safe and ends: each stretch begins where the one before it ended, and has a place. Assumes nothing.
use Prim.Native.Nat.{◌-◌, ◌≤◌}
use lib.ListN.{length}
use Rattle.wavfile.proofs.report.print_stretches.Given as goal

abbrev pub invariant-loop-i : goal.invariant-loop-i
invariant-loop-i g l = l.i ≤ length l.marks

abbrev pub decreases-loop-i : goal.decreases-loop-i
decreases-loop-i g l = length l.marks - l.i
