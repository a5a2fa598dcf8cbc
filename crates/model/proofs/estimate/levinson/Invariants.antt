-- `model::estimate::levinson` meets its contract. The loop's invariant: the orders that are left, from the coefficients
-- as they stand, give the coefficients and the order of the whole, and nothing but the copy and the coefficients was
-- written. Assumes nothing.
use Prim.Native.Nat.{◌+◌, ◌-◌, ◌*◌}
use mathlib.Core.Path.{◌≡◌}
use Rattle.model.specs.Areas.{area, Only}
use Rattle.model.proofs.estimate.Laws.{stop_of}
use Rattle.model.proofs.estimate.levinson.Given as goal

abbrev pub invariant-loop-i : goal.invariant-loop-i
invariant-loop-i l = Only l.copy (l.r + 3 * (l.p + 1)) l.initial.work l.work
    × (stop_of (area l.initial.work l.r (l.p + 1)) (area l.work l.a (l.p + 1)) l.e l.i (l.p + 1 - l.i)
    ≡ stop_of (area l.initial.work l.r (l.p + 1)) (area l.initial.work l.a (l.p + 1)) l.initial.e 1 l.p)
