-- `model::sums::coef_at` meets its contract. The loop's invariant: adding what is left gives the whole. Assumes nothing.
use Prim.Native.Nat.{◌+◌, ◌-◌}
use mathlib.Core.Path.{◌≡◌}
use Rattle.leaves.specs.Arithmetic.{◌*₆₄◌, at}
use Rattle.model.specs.Model.{plus, coef_at}
use Rattle.model.proofs.sums.coef_at.Given as goal

abbrev pub invariant-loop-k : goal.invariant-loop-k
invariant-loop-k l = plus (λ n. at l.a n *₆₄ at l.a (n + l.j)) l.k (l.count - l.k) l.s ≡ coef_at l.a l.p l.j
