-- `inpaint::auto::next_run` meets its contract. The outer loop's invariant: the search from here on gives what the search from `from` on
-- gives, and nothing is found yet. The inner loop's: what continues the run from `end` on ends where the whole run does. Assumes nothing.
use Rattle.std.proofs.Common.{◌≡◌, ◌+◌}
use Rattle.std.specs.Prelude.{None}
use Rattle.inpaint.specs.Auto.{next_run}
use Rattle.inpaint.proofs.auto.Runs.{more, searched}
use Rattle.inpaint.proofs.auto.next_run.Given as goal

abbrev pub invariant-loop-end : goal.invariant-loop-end
invariant-loop-end l =
    let samples = l.samples in
    (l.found ≡ None) × (l.end + more samples l.end ≡ l.start + 1 + more samples (l.start + 1))

abbrev pub invariant-search : goal.invariant-search
invariant-search l =
    let samples = l.samples in
    (l.found ≡ None) × (searched samples l.most l.held l.from l.start ≡ next_run samples l.most l.held l.from)
