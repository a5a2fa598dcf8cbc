-- `dequant::cosparse::cubic_weight` meets its contract: the operations are those of the rule. Assumes nothing.
use Rattle.dequant.proofs.cosparse.Laws.{weight_is}
use Rattle.dequant.proofs.cosparse.cubic_weight.Goals as goal

pub returns : goal.returns
returns c = weight_is _ _ _ _ _ _ c.magnitude-bend.ensures c.clamp.ensures
