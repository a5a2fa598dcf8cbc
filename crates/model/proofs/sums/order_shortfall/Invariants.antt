-- `model::sums::order_shortfall` meets its contract. The loop's invariant: adding what is left gives the whole. Assumes
-- nothing.
use Prim.Native.Nat.{◌-◌}
use mathlib.Core.Path.{◌≡◌}
use Rattle.leaves.specs.Arithmetic.{◌*₆₄◌, at}
use Rattle.model.specs.Model.{plus, shortfall}
use Rattle.model.proofs.sums.order_shortfall.Given as goal

abbrev pub invariant-loop-j : goal.invariant-loop-j
invariant-loop-j l = plus (λ n. at l.a n *₆₄ at l.r (l.i - n)) l.j (l.i - l.j) l.s ≡ shortfall l.a l.r l.i
