-- `inpaint::fill::check_results` meets its contract. The loop's invariant: the test of what is left gives the answer of
-- the whole. Assumes nothing.
use Rattle.std.proofs.Common.{sym, ◌∙◌, add-zero}
use borrow.Author.Tests.{not-true, not-false}
use Rattle.inpaint.proofs.fill.Laws.{result_in, result_out, results_in}
use Rattle.std.proofs.Common.{ap, not}
use Rattle.inpaint.proofs.fill.check_results.Goals as goal

pub loop-i-init : goal.loop-i-init
loop-i-init c = simp add-zero

pub returns-then-not-in_range : goal.returns-then-not-in_range
returns-then-not-in_range c =
    let out = sym c.in_range.ensures ∙ not-true _ (ap not c.if-not-in_range.true) in
    sym (result_out _ _ _ _ _ c.loop-i-test.true c.word_of_double.ensures out) ∙ c.loop-i.invariant

pub loop-i-preserved : goal.loop-i-preserved
loop-i-preserved c =
    let right = sym c.in_range.ensures ∙ not-false _ (ap not c.if-not-in_range.false) in
    sym (result_in _ _ _ _ _ c.loop-i-test.true c.word_of_double.ensures right) ∙ c.loop-i.invariant

pub returns : goal.returns
returns c = sym (results_in _ _ _ c.loop-i-test.false) ∙ c.loop-i.invariant
