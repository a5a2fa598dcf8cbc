-- `inpaint::line::check_line` meets its contract. The loop's invariant: the test of the samples that are left gives the
-- answer of the whole. Assumes nothing.
use Rattle.std.proofs.Common.{add-zero, sym, ◌∙◌}
use native.Mathlib.Nat.{sub-zero}
use borrow.Author.Tests.{not-true, not-false}
use Rattle.std.proofs.Common.{ap, not}
use Rattle.inpaint.proofs.line.Laws.{word_in, word_out, words_in}
use Rattle.inpaint.proofs.line.check_line.Goals as goal

pub loop-i-init : goal.loop-i-init
loop-i-init c = simp (add-zero, sub-zero)

pub returns-then-not-in_range : goal.returns-then-not-in_range
returns-then-not-in_range c =
    let out = sym c.in_range.ensures ∙ not-true _ (ap not c.if-not-in_range.true) in
    sym (word_out _ _ _ _ _ c.loop-i-test.true c.line_word.ensures _ out) ∙ c.loop-i.invariant

pub loop-i-preserved : goal.loop-i-preserved
loop-i-preserved c =
    let right = sym c.in_range.ensures ∙ not-false _ (ap not c.if-not-in_range.false) in
    sym (word_in _ _ _ _ _ c.loop-i-test.true c.line_word.ensures _ right) ∙ c.loop-i.invariant

pub returns : goal.returns
returns c = sym (words_in _ _ _ _ c.loop-i-test.false _) ∙ c.loop-i.invariant
