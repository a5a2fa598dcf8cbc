-- The invariant of the loop of `leaves::root::root_by_digits` is `Taken` of `../Squares.antt`, which has the
-- arithmetic. Assumes nothing.
use Rattle.leaves.proofs.root.Squares.{Taken}
use Rattle.leaves.proofs.root.root_by_digits.Given as goal

abbrev pub invariant-loop-turn : goal.invariant-loop-turn
invariant-loop-turn l = Taken l.digits l.left l.rest l.root l._turn
