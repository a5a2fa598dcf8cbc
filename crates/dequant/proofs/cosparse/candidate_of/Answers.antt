-- `dequant::cosparse::candidate_of` meets its contract: the operations are those of the rule. Assumes nothing.
use Rattle.dequant.proofs.cosparse.Laws.{candidate_is}
use Rattle.dequant.proofs.cosparse.candidate_of.Goals as goal

pub returns : goal.returns
returns c = candidate_is _ _ _ _ _ c.cubic_weight-weight.ensures
