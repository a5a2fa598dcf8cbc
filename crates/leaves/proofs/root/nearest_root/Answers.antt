-- `leaves::root::nearest_root` meets its contract: by what its rest is, `../Squares.antt` says which number is nearest.
-- Assumes nothing.
use Rattle.std.proofs.Common.{arith}
use Rattle.leaves.proofs.root.Squares.{nearest_down, nearest_up, nearest_two_up}
use Rattle.leaves.proofs.root.nearest_root.Goals as goal

pub returns-then-root-rest-2 : goal.returns-then-root-rest-2
returns-then-root-rest-2 c =
    let is = c.rest_of_square-rest.ensures.0 (omega arith) in
    nearest_two_up _ _ _ is (omega arith) c.if-root-rest-2.true

pub returns-then-root-rest-3 : goal.returns-then-root-rest-3
returns-then-root-rest-3 c =
    let is = c.rest_of_square-rest.ensures.0 (omega arith) in
    nearest_up _ _ _ is (omega arith) c.if-root-rest-3.true

pub returns-else-root-rest-3 : goal.returns-else-root-rest-3
returns-else-root-rest-3 c =
    let is = c.rest_of_square-rest.ensures.0 (omega arith) in
    nearest_down _ _ _ is (omega arith) c.if-root-rest-3.false
