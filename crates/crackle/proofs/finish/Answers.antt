-- `crackle::finish` meets its contract: each way out is a line of the rule. Assumes nothing.
use native.Mathlib.Omega.{arith}
use Rattle.crackle.proofs.Due.{given_within}
use Rattle.crackle.proofs.Steps.{end_few, end_early, end_empty, end_short, end_some, end_room}
use Rattle.crackle.proofs.finish.Goals as goal

pub returns-then-held-lt-MEAN_OVER : goal.returns-then-held-lt-MEAN_OVER
returns-then-held-lt-MEAN_OVER c = rw (c.refused.ensures.0, c.refused.ensures.1) (end_few _ _ _ c.if-held-lt-MEAN_OVER.true)

pub returns-then-not_all : goal.returns-then-not_all
returns-then-not_all c =
    rw (c.refused-then-not_all.ensures.0, c.refused-then-not_all.ensures.1)
    (end_early _ _ _ c.if-held-lt-MEAN_OVER.false _ c.not_all.ensures _ c.if-not_all.true c.close.ensures)

pub returns-then-taken-eq0 : goal.returns-then-taken-eq0
returns-then-taken-eq0 c =
    end_empty _ _ _ c.if-held-lt-MEAN_OVER.false _ c.not_all.ensures _ c.if-not_all.false c.if-taken-eq0.true c.close-then-taken-eq0.ensures

pub overflow_sub-due : goal.overflow_sub-due
overflow_sub-due c =
    let d = c.args.detector in
    omega (arith, c.given_by.ensures, given_within d.start d.taken)

pub returns-then-flags-due : goal.returns-then-flags-due
returns-then-flags-due c =
    rw (c.refused-then-flags-due.ensures.0, c.refused-then-flags-due.ensures.1)
    (end_short _ _ _ c.if-held-lt-MEAN_OVER.false _ c.not_all.ensures c.if-not_all.false _ c.given_by.ensures c.if-flags-due.true)

pub judge-requires : goal.judge-requires
judge-requires c = (
  omega (arith, c.if-taken-eq0.false),
  c.if-held-lt-MEAN_OVER.false,
  end_room _ _ _ _ c.if-held-lt-MEAN_OVER.false c.given_by.ensures c.if-taken-eq0.false c.if-flags-due.false,
)

pub returns : goal.returns
returns c =
    let made = c.judge.ensures in
    end_some _ _ _ c.if-held-lt-MEAN_OVER.false _ c.not_all.ensures c.if-not_all.false _ c.given_by.ensures c.if-flags-due.false _
    c.close-2.ensures _ _ c.if-taken-eq0.false (made.1, made.2)
