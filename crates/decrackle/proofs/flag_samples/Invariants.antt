-- `decrackle::flag_samples` meets its contract. The loop's invariant: storing the flags that are left gives the whole. Assumes
-- nothing.
use Prim.Native.Nat.{◌+◌}
use mathlib.Core.Path.{◌≡◌}
use lib.Seq.{sets}
use Rattle.decrackle.proofs.Flags.{left_from}
use Rattle.decrackle.proofs.flag_samples.Given as goal

abbrev pub invariant-loop-i : goal.invariant-loop-i
invariant-loop-i l =
    sets l.work (l.n + l.i) (left_from l.factor l.samples l.floor l.i l.n) ≡ sets l.initial.work (l.n + 0) (left_from l.factor l.samples l.initial.floor 0 l.n)
