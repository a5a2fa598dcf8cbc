-- `declip::bridge_runs` meets its contract. The loop's invariant: bridging the runs that are left gives the whole. Assumes
-- nothing.
use Rattle.declip.proofs.Laws.{Going}
use Rattle.declip.proofs.bridge_runs.Given as goal

abbrev pub invariant-loop-i : goal.invariant-loop-i
invariant-loop-i l = Going l.fn.threshold l.fn.recording.samples.now l.initial.work l.i l.work
