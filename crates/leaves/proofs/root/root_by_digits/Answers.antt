-- `leaves::root::root_by_digits` meets its contract, by the arithmetic of `../Squares.antt`. Assumes nothing.
use Rattle.std.proofs.Common.{arith}
use Rattle.leaves.proofs.root.Squares.{taken_small, turn_one, turn_zero, taken_all, nearest_up, nearest_down}
use Rattle.leaves.proofs.root.root_by_digits.Goals as goal
use Rattle.leaves.proofs.root.root_by_digits.Goals.{then-root-rest, else-root-rest}

pub overflow_mul-rest : goal.overflow_mul-rest
overflow_mul-rest c = omega (arith, taken_small c.loop-turn.invariant)

pub overflow_add-rest : goal.overflow_add-rest
overflow_add-rest c = omega (arith, taken_small c.loop-turn.invariant)

pub overflow_mul-root-in-loop-turn : goal.overflow_mul-root-in-loop-turn
overflow_mul-root-in-loop-turn c = omega (arith, taken_small c.loop-turn.invariant)

pub overflow_mul-rest-then-root-rest : goal.overflow_mul-rest-then-root-rest
overflow_mul-rest-then-root-rest c = omega (arith, taken_small c.loop-turn.invariant)

pub overflow_add-rest-then-root-rest : goal.overflow_add-rest-then-root-rest
overflow_add-rest-then-root-rest c = omega (arith, taken_small c.loop-turn.invariant)

pub loop-turn-preserved : goal.loop-turn-preserved
loop-turn-preserved c =
    elim c.if-root-rest.branch [
      | then-root-rest w ↦
          rw (w.rest-is, w.root-is) (turn_one c.loop-turn-test.true c.loop-turn.invariant w.if-root-rest.true)
      | else-root-rest w ↦
          rw (w.rest-is, w.root-is) (turn_zero c.loop-turn-test.true c.loop-turn.invariant w.if-root-rest.false)
    ]

pub returns-then-root-rest-2 : goal.returns-then-root-rest-2
returns-then-root-rest-2 c =
    let at = c.loop-turn.invariant in
    nearest_up _ _ _ (taken_all at (omega arith)) (omega (arith, at.whole)) c.if-root-rest-2.true

pub returns-else-root-rest-2 : goal.returns-else-root-rest-2
returns-else-root-rest-2 c =
    let at = c.loop-turn.invariant in
    nearest_down _ _ _ (taken_all at (omega arith)) (omega arith) c.if-root-rest-2.false
