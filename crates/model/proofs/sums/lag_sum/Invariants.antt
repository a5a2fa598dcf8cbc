-- `model::sums::lag_sum` meets its contract. The loop's invariant: adding what is left gives the whole. Assumes nothing.
use Prim.Native.Nat.{◌-◌}
use mathlib.Core.Path.{◌≡◌}
use lib.ListN.{length}
use Rattle.model.specs.Model.{plus_where, lag_sum}
use Rattle.model.proofs.sums.Laws.{pair, pair_known}
use Rattle.model.proofs.sums.lag_sum.Given as goal

abbrev pub invariant-loop-i : goal.invariant-loop-i
invariant-loop-i l = plus_where (pair_known l.g l.len l.lag) (pair l.seg l.lag) l.i (length l.seg - l.i) l.s ≡ lag_sum l.seg l.g l.len l.lag
