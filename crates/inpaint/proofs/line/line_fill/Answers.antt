-- `inpaint::line::line_fill` meets its contract. The loop's invariant: storing the samples that are left gives the
-- whole line. Assumes nothing.
use Rattle.std.proofs.Common.{refl}
use Rattle.inpaint.proofs.line.Laws.{word_stored, words_stored, line_over}
use Rattle.inpaint.proofs.line.line_fill.Goals as goal

pub loop-i-init : goal.loop-i-init
loop-i-init c = line_over _ _ c.args.gap.now _ refl

pub loop-i-preserved : goal.loop-i-preserved
loop-i-preserved c = word_stored _ _ _ _ _ c.loop-i-test.true c.line_word.ensures _ _ c.loop-i.invariant

pub returns : goal.returns
returns c = words_stored _ _ _ _ c.loop-i-test.false _ _ c.loop-i.invariant
