-- `count_cases` is safe and ends: no more cases are counted than bytes were passed, and no more of them agree. The measure is how many
-- bytes are left. Assumes nothing.
use Rattle.std.proofs.Common.{◌+◌, ◌≤◌, length}
use Rattle.repairlist.proofs.count_cases.Given as goal

abbrev pub invariant-loop-rest : goal.invariant-loop-rest
invariant-loop-rest l = (l.agreeing ≤ l.cases) × (l.cases + length l.rest ≤ length l.list)

abbrev pub decreases-loop-rest : goal.decreases-loop-rest
decreases-loop-rest l = length l.rest
