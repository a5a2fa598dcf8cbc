-- `model::sums::minus_products` meets its contract. The loop's invariant: taking away what is left gives the whole.
-- Assumes nothing.
use Prim.Native.Nat.{◌+◌, ◌-◌}
use mathlib.Core.Path.{◌≡◌}
use Rattle.leaves.specs.Arithmetic.{◌*₆₄◌, at}
use Rattle.model.specs.Model.{minus}
use Rattle.model.proofs.sums.minus_products.Given as goal

abbrev pub invariant-loop-k : goal.invariant-loop-k
invariant-loop-k l = minus (λ n. at l.l (l.x + n) *₆₄ at l.m (l.y + n)) l.k (l.to - l.k) l.left
    ≡ minus (λ n. at l.l (l.x + n) *₆₄ at l.m (l.y + n)) l.from (l.to - l.from) l.s
