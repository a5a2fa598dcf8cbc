-- `model::banded::factor_row` meets its contract. The loop's invariant: k places of the row stand behind the rows
-- before it and nothing else changed, and the places that are left of the row give the whole. Assumes nothing.
use Prim.Native.Nat.{◌+◌, ◌-◌, ◌*◌}
use mathlib.Core.Path.{◌≡◌}
use lib.ListN.{length}
use lib.Seq.{sets}
use Rattle.model.specs.Model.{cells}
use Rattle.model.specs.Areas.{area}
use Rattle.model.proofs.banded.factor_row.Given as goal

abbrev pub invariant-loop-k : goal.invariant-loop-k
invariant-loop-k l = (length l.work ≡ length l.initial.work)
    × (l.work ≡ sets l.initial.work l.band (area l.work l.band (l.row + l.k)))
    × (cells (area l.initial.work l.b (l.p + 1)) l.p l.i (l.p + 1 - l.k) (area l.work l.band (l.row + l.k))
    ≡ cells (area l.initial.work l.b (l.p + 1)) l.p l.i (l.p + 1) (area l.initial.work l.band (l.i * (l.p + 1))))
