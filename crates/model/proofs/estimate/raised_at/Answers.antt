-- `model::estimate::raised_at` meets its contract: its tests are those of `raised_at`. Assumes nothing.
use Rattle.std.proofs.Common.{◌≡◌, ◌&&◌, false}
use lib.Dec.{ltb}
use Rattle.model.proofs.estimate.Laws.{first_outside, behind_outside, raised_between, raised_last, raised_other}
use Rattle.model.proofs.estimate.raised_at.Goals as goal
use Rattle.model.proofs.estimate.raised_at.Goals.{else-j-gt0-via-then-j-gt0+else-j-i, else-j-gt0-via-else-j-gt0}

pub returns-then-j-i : goal.returns-then-j-i
returns-then-j-i c = raised_between _ _ _ _ c.if-j-gt0.true c.if-j-i.true

pub returns-then-j-i-2 : goal.returns-then-j-i-2
returns-then-j-i-2 c = raised_last _ _ _ _ c.if-j-i-2.true

pub returns-else-j-i-2 : goal.returns-else-j-i-2
returns-else-j-i-2 c =
    let a = c.args in
    let outside : (ltb 0 a.j && ltb a.j a.i) ≡ false = elim c.else-j-gt0.branch [
      | else-j-gt0-via-then-j-gt0+else-j-i w ↦ behind_outside a.a.now a.i a.k a.j w.if-j-i.false
      | else-j-gt0-via-else-j-gt0 w ↦ first_outside a.a.now a.i a.k a.j w.if-j-gt0.false
    ] in
    raised_other _ _ _ _ outside c.if-j-i-2.false
