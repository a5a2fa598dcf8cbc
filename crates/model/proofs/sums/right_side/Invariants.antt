-- `model::sums::right_side` meets its contract. Each loop's invariant: adding what is left gives the whole. Assumes
-- nothing.
use Prim.Native.Nat.{◌+◌, ◌-◌}
use mathlib.Core.Path.{◌≡◌}
use Rattle.leaves.specs.Arithmetic.{nought}
use Rattle.model.specs.Model.{plus}
use Rattle.model.proofs.sums.Laws.{before_gap, behind_gap}
use Rattle.model.proofs.sums.right_side.Given as goal

abbrev pub invariant-loop-x : goal.invariant-loop-x
invariant-loop-x l = plus (before_gap l.seg l.b l.c) l.x (l.g - l.x) l.s ≡ plus (before_gap l.seg l.b l.c) (l.c - l.p) (l.g - (l.c - l.p)) nought

abbrev pub invariant-loop-x-2 : goal.invariant-loop-x-2
invariant-loop-x-2 l = plus (behind_gap l.seg l.b l.c) l.x (l.high - l.x) l.s
    ≡ plus (behind_gap l.seg l.b l.c) (l.g + l.len) (l.high - (l.g + l.len)) l.initial.s
