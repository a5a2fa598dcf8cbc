-- `model::sums::minus_column` meets its contract. The loop's invariant: taking away what is left gives the whole. Assumes
-- nothing.
use Prim.Native.Nat.{◌+◌, ◌-◌}
use mathlib.Core.Path.{◌≡◌}
use Rattle.leaves.specs.Arithmetic.{◌*₆₄◌, at}
use Rattle.model.specs.Model.{minus, mat}
use Rattle.model.proofs.sums.minus_column.Given as goal

abbrev pub invariant-loop-k : goal.invariant-loop-k
invariant-loop-k l = minus (λ n. mat l.p l.band n l.i *₆₄ at l.x (n - (l.i + 1))) l.k (l.high + 1 - l.k) l.left
    ≡ minus (λ n. mat l.p l.band n l.i *₆₄ at l.x (n - (l.i + 1))) (l.i + 1) (l.high - l.i) l.s
