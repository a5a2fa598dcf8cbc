-- `model::banded::forward_solve` meets its contract. The loop's invariant: the first i results stand at y and
-- nothing else changed, and what is left to solve gives the whole. Assumes nothing.
use Prim.Native.Nat.{◌+◌, ◌-◌, ◌*◌}
use mathlib.Core.Path.{◌≡◌}
use mathlib.Core.List.{[]}
use lib.ListN.{length}
use lib.Seq.{sets}
use Rattle.model.specs.Model.{forward}
use Rattle.model.specs.Areas.{area}
use Rattle.model.proofs.banded.forward_solve.Given as goal

abbrev pub invariant-loop-i : goal.invariant-loop-i
invariant-loop-i l = (length l.work ≡ length l.initial.work) × (l.work ≡ sets l.initial.work l.y (area l.work l.y l.i))
    × (forward (area l.initial.work l.band (l.len * (l.p + 1))) (area l.initial.work l.rhs l.len) l.p (l.len - l.i) (area l.work l.y l.i)
    ≡ forward (area l.initial.work l.band (l.len * (l.p + 1))) (area l.initial.work l.rhs l.len) l.p l.len [])
