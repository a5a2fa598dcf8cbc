-- `proposed::check_proposal` meets its contract. The loop's invariant: the test of what is left gives the answer of the whole. The measure
-- is how many samples are left. Assumes nothing.
use mathlib.Core.Path.{sym, ◌∙◌}
use borrow.Author.Tests.{not-true, not-false}
use Rattle.proposed.proofs.Laws.{taken_short, taken_all, answered_more, answered_out, answered_done}
use Rattle.std.proofs.Common.{ap, not}
use Rattle.proposed.proofs.check_proposal.Goals as goal

pub returns-then-proposal-samples : goal.returns-then-proposal-samples
returns-then-proposal-samples c = taken_short _ _ _ c.if-proposal-samples.true

pub returns-then-not-is_answered : goal.returns-then-not-is_answered
returns-then-not-is_answered c =
    let inv = c.loop-i.invariant in
    let wrong = sym c.is_answered.ensures ∙ not-true _ (ap not c.if-not-is_answered.true) in
    sym (answered_out _ _ _ c.if-proposal-samples.false _ c.loop-i-test.true wrong) ∙ inv

pub returns : goal.returns
returns c =
    let inv = c.loop-i.invariant in
    sym (answered_done _ _ _ c.if-proposal-samples.false _ c.loop-i-test.false) ∙ inv

pub loop-i-init : goal.loop-i-init
loop-i-init c = taken_all _ _ _ c.if-proposal-samples.false

pub loop-i-preserved : goal.loop-i-preserved
loop-i-preserved c =
    let right = sym c.is_answered.ensures ∙ not-false _ (ap not c.if-not-is_answered.false) in
    sym (answered_more _ _ _ c.if-proposal-samples.false _ c.loop-i-test.true right) ∙ c.loop-i.invariant
