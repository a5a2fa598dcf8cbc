-- `decrackle::stands_out` meets its contract: it gives what the rule's test finds. Assumes nothing.
use Rattle.decrackle.proofs.Flags.{out_is}
use Rattle.decrackle.proofs.stands_out.Goals as goal

pub returns : goal.returns
returns c = out_is _ _ _ _ c.larger.ensures
