-- `recording::read::check_words` meets its contract. Assumes nothing.
use mathlib.Core.Path.{sym, ◌∙◌}
use native.Mathlib.Nat.{add-zero}
use borrow.Author.Tests.{not-true, not-false}
use Rattle.recording.proofs.read.Laws.{read_more, read_out, read_done}
use Rattle.std.proofs.Common.{ap, not}
use Rattle.recording.proofs.read.check_words.Goals as goal

pub loop-i-init : goal.loop-i-init
loop-i-init c = simp add-zero

pub returns-then-not-in_range : goal.returns-then-not-in_range
returns-then-not-in_range c =
    let out = sym c.in_range.ensures ∙ not-true _ (ap not c.if-not-in_range.true) in
    sym (read_out _ _ _ c.loop-i-test.true out) ∙ c.loop-i.invariant

pub loop-i-preserved : goal.loop-i-preserved
loop-i-preserved c =
    let right = sym c.in_range.ensures ∙ not-false _ (ap not c.if-not-in_range.false) in
    sym (read_more _ _ _ c.loop-i-test.true right) ∙ c.loop-i.invariant

pub returns : goal.returns
returns c = sym (read_done _ _ _ c.loop-i-test.false) ∙ c.loop-i.invariant
