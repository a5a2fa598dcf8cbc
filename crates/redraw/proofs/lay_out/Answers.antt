-- `redraw::lay_out` meets its contract: the words are the samples, and no flag is set. One turn stores one sample more of the
-- whole. Assumes nothing.
use mathlib.Core.Path.{refl}
use Rattle.leaves.proofs.Stores.{copy_more, all_copied}
use Rattle.redraw.proofs.Workspace.{laid_out_lem}
use Rattle.redraw.proofs.lay_out.Goals as goal

pub loop-i-preserved : goal.loop-i-preserved
loop-i-preserved c = copy_more _ _ _ _ _ _ 0 c.loop-i-test.true refl c.loop-i.invariant

pub returns : goal.returns
returns c =
    laid_out_lem _ _ _ _ c.requires (all_copied _ _ _ _ _ c.loop-i-test.false c.loop-i.invariant) c.set_all.ensures
