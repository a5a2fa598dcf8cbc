-- `decrackle::opening_floor` meets its contract: each way out is a line of the rule, by the start. Assumes nothing.
use Rattle.decrackle.proofs.Opening.{opens_mean, opens_old}
use Rattle.decrackle.proofs.opening_floor.Goals as goal

pub returns-in-Mean : goal.returns-in-Mean
returns-in-Mean c = opens_mean _ _ c.in-Mean.is _ _ _ c.min-n.ensures c.sum_magnitudes.ensures c.mean_floor.ensures

pub returns-in-Old : goal.returns-in-Old
returns-in-Old c = opens_old _ _ c.in-Old.is
