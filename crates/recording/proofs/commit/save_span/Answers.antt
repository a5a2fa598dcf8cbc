-- `recording::commit::save_span` meets its contract. Assumes nothing.
use mathlib.Core.Path.{sym, ◌∙◌}
use native.Mathlib.Nat.{add-zero, sub-zero}
use Rattle.recording.proofs.commit.Laws.{span_save, span_saved}
use Rattle.recording.proofs.commit.save_span.Goals as goal

pub loop-i-init : goal.loop-i-init
loop-i-init c = simp (add-zero, sub-zero)

pub loop-i-preserved : goal.loop-i-preserved
loop-i-preserved c = span_save _ _ _ _ _ _ _ _ _ c.loop-i-test.true c.save.ensures c.loop-i.invariant

pub returns : goal.returns
returns c = sym (span_saved _ _ _ _ _ _ _ c.loop-i-test.false) ∙ c.loop-i.invariant
