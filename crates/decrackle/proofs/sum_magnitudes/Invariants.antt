-- `decrackle::sum_magnitudes` meets its contract. The loop's invariant: adding the magnitudes that are left gives the whole. Assumes
-- nothing.
use Prim.Native.Nat.{◌-◌}
use mathlib.Core.Path.{◌≡◌}
use Rattle.decrackle.specs.Decrackle.{magnitudes_from, summed}
use Rattle.decrackle.proofs.sum_magnitudes.Given as goal

abbrev pub invariant-loop-i : goal.invariant-loop-i
invariant-loop-i l = summed l.sum (magnitudes_from l.samples l.i (l.n - l.i)) ≡ summed l.initial.sum (magnitudes_from l.samples 0 (l.n - 0))
