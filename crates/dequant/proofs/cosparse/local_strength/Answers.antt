-- `dequant::cosparse::local_strength` meets its contract: the operations are those of the rule. Assumes nothing.
use Rattle.dequant.proofs.cosparse.Laws.{local_is}
use Rattle.dequant.proofs.cosparse.local_strength.Goals as goal

pub returns : goal.returns
returns c = local_is _ _ _ _ c.magnitude-rise.ensures
