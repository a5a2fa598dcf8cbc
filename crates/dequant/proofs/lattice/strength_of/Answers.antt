-- `dequant::lattice::strength_of` meets its contract: the ends are 0 and 1. Assumes nothing.
use Rattle.dequant.proofs.lattice.Laws.{strength_is}
use Rattle.dequant.proofs.lattice.strength_of.Goals as goal

pub returns : goal.returns
returns c = strength_is _ _ c.clamp.ensures
