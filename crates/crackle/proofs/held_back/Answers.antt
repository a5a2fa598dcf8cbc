-- `crackle::held_back` meets its contract: each start has its case. Assumes nothing.
use Rattle.crackle.proofs.Due.{held_mean, held_old}
use Rattle.crackle.proofs.held_back.Goals as goal

pub returns-in-Mean : goal.returns-in-Mean
returns-in-Mean c = held_mean _ _ c.in-Mean.is

pub returns-in-Old : goal.returns-in-Old
returns-in-Old c = held_old _ _ c.in-Old.is
