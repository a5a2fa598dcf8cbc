-- `decrackle::mean_floor` meets its contract: the count is that of the rule, and so is the least floor. Assumes nothing.
use Rattle.decrackle.proofs.Opening.{mean_is}
use Rattle.decrackle.proofs.mean_floor.Goals as goal

pub returns : goal.returns
returns c = mean_is _ _ _ _ c.count_as_f32.ensures c.larger.ensures
