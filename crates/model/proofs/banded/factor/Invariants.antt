-- `model::banded::factor` meets its contract. The loop's invariant: the first i rows stand at band and nothing
-- else changed, and the rows that are left give the whole.  Assumes nothing.
use Prim.Native.Nat.{◌+◌, ◌-◌, ◌*◌}
use mathlib.Core.Path.{◌≡◌}
use lib.ListN.{length}
use lib.Seq.{sets}
use Rattle.model.specs.Model.{rows, factored}
use Rattle.model.specs.Areas.{area}
use Rattle.model.proofs.banded.factor.Given as goal

abbrev pub invariant-loop-i : goal.invariant-loop-i
invariant-loop-i l = (length l.work ≡ length l.initial.work) × (l.work ≡ sets l.initial.work l.band (area l.work l.band (l.i * (l.p + 1))))
    × (rows (area l.initial.work l.b (l.p + 1)) l.p l.i (l.len - l.i) (area l.work l.band (l.i * (l.p + 1))) ≡ factored (area l.initial.work l.b (l.p + 1)) l.p l.len)
