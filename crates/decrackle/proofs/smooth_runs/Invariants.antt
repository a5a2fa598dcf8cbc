-- `decrackle::smooth_runs` meets its contract. The loop's invariant: rewriting the runs that are left gives the whole, and the
-- flags are as they were. Assumes nothing.
use Rattle.decrackle.proofs.Drawing.{Smoothing}
use Rattle.decrackle.proofs.smooth_runs.Given as goal

abbrev pub invariant-loop-i : goal.invariant-loop-i
invariant-loop-i l = Smoothing l.n l.initial.work l.i l.work
