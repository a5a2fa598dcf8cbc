-- `model::fill::coef_autocorr` meets its contract. The loop's invariant: the first sums stand at b, and the
-- coefficients are as they were. Assumes nothing.
use Prim.Native.Nat.{◌+◌}
use mathlib.Core.Path.{◌≡◌}
use lib.ListN.{length}
use lib.Seq.{sets}
use Rattle.model.specs.Model.{each, coef_at}
use Rattle.model.specs.Areas.{area}
use Rattle.model.proofs.fill.coef_autocorr.Given as goal

abbrev pub invariant-loop-j : goal.invariant-loop-j
invariant-loop-j l = (length l.work ≡ length l.initial.work) × (l.work ≡ sets l.initial.work l.b (each (coef_at (area l.initial.work l.a (l.p + 1)) l.p) 0 l.j))
