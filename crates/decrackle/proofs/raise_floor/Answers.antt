-- `decrackle::raise_floor` meets its contract: the operations are those of the rule. Assumes nothing.
use Rattle.decrackle.proofs.Flags.{floor_is}
use Rattle.decrackle.proofs.raise_floor.Goals as goal

pub returns : goal.returns
returns c = floor_is _ _
