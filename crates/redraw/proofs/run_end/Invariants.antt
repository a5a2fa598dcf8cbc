-- `redraw::run_end` meets its contract. The loop's invariant: the run from here on ends where the whole run does. Assumes
-- nothing.
use mathlib.Core.Path.{◌≡◌}
use mathlib.Core.Bool.{Bool}
use Prim.Native.Nat.{ℕ, ◌+◌, ◌-◌}
use Rattle.recording.specs.Runs.{run_length}
use Rattle.redraw.specs.Runs.{Decides}
use Rattle.redraw.proofs.run_end.Given as goal

abbrev pub invariant-loop-end : goal.invariant-loop-end
invariant-loop-end g l =
    (test : ℕ → Bool) → Decides (goal.F-post g l.meets) l.n test
    → l.end + run_length test l.end (l.n - l.end) ≡ l.start + run_length test l.start (l.n - l.start)
