-- `dequant::lattice::target_of` meets its contract: the operations are those of the rule. Assumes nothing.
use Rattle.dequant.proofs.lattice.Laws.{target_is}
use Rattle.dequant.proofs.lattice.target_of.Goals as goal

pub returns : goal.returns
returns c = target_is _ _ _ _ _ c.round_to_whole.ensures c.clamp.ensures
