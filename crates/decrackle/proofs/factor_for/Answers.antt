-- `decrackle::factor_for` meets its contract: the operations are those of the rule. Assumes nothing.
use Rattle.decrackle.proofs.Flags.{factor_is}
use Rattle.decrackle.proofs.factor_for.Goals as goal

pub returns : goal.returns
returns c = factor_is _ _ c.clamp.ensures
