-- `recording::undo::saved_wrong` meets its contract. Assumes nothing.
use mathlib.Core.Path.{refl}
use borrow.Author.Rules.{rules}
use Rattle.recording.proofs.undo.Laws.{none_tested, one_tested, all_tested}
use Rattle.recording.proofs.undo.saved_wrong.Goals as goal

pub loop-i-init : goal.loop-i-init
loop-i-init c = none_tested _ _ _ _

pub returns-then-place-least : goal.returns-then-place-least
returns-then-place-least c =
    rw (← one_tested _ _ _ _ _ _ _ _ c.loop-i-test.true c.loop-i.invariant refl) (search rules)

pub loop-i-preserved : goal.loop-i-preserved
loop-i-preserved c =
    rw (← one_tested _ _ _ _ _ _ _ _ c.loop-i-test.true c.loop-i.invariant refl) (search rules)

pub returns : goal.returns
returns c = all_tested _ _ _ _ _ _ _ c.loop-i.invariant c.loop-i-test.false
