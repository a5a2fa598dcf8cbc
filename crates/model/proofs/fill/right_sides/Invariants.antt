-- `model::fill::right_sides` meets its contract. The loop's invariant: the first right sides stand at `rhs`, and the
-- window and b are as they were. Assumes nothing.
use Prim.Native.Nat.{◌+◌}
use mathlib.Core.Path.{◌≡◌}
use lib.ListN.{length}
use lib.Seq.{sets}
use Rattle.model.specs.Model.{each, right_side}
use Rattle.model.specs.Areas.{area}
use Rattle.model.proofs.fill.right_sides.Given as goal

abbrev pub invariant-loop-i : goal.invariant-loop-i
invariant-loop-i l = (length l.work ≡ length l.initial.work)
    × (l.work ≡ sets l.initial.work l.rhs (each (right_side (area l.initial.work 0 l.size) l.g l.len (area l.initial.work l.b (l.p + 1)) l.p) 0 l.i))
