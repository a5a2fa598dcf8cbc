-- `decrackle::from_middle` meets its contract: the operations are those of the rule. Assumes nothing.
use Rattle.decrackle.proofs.Flags.{middle_is}
use Rattle.decrackle.proofs.from_middle.Goals as goal

pub returns : goal.returns
returns c = middle_is _ _ _
