-- `same_samples` is safe: no more of the words of those renewed are read than the row has. Assumes nothing.
use Rattle.std.proofs.Common.{◌≤◌}
use Rattle.repairlist.proofs.same_samples.Given as goal

abbrev pub invariant-loop-i : goal.invariant-loop-i
invariant-loop-i l = l.passed ≤ l.renewed
