-- `model::estimate::raise_order` meets its contract. The loop's invariant: the first j coefficients of the order stand
-- at `copy`, from those that stood at a. Assumes nothing.
use Prim.Native.Nat.{◌+◌}
use mathlib.Core.Path.{◌≡◌}
use lib.ListN.{length}
use lib.Seq.{sets}
use Rattle.model.specs.Model.{each, raised_at}
use Rattle.model.specs.Areas.{area}
use Rattle.model.proofs.estimate.raise_order.Given as goal

abbrev pub invariant-loop-j : goal.invariant-loop-j
invariant-loop-j l = (length l.work ≡ length l.initial.work)
    × (l.work ≡ sets l.initial.work l.copy (each (raised_at (area l.initial.work l.a (l.p + 1)) l.i l.k) 0 l.j))
