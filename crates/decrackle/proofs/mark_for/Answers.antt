-- `decrackle::mark_for` meets its contract: each start has its mark. Assumes nothing.
use mathlib.Core.Path.{refl}
use Rattle.decrackle.specs.Decrackle.{mark_for}
use Rattle.decrackle.proofs.mark_for.Goals as goal

pub returns-in-Mean : goal.returns-in-Mean
unfolding mark_for
returns-in-Mean c = rw c.in-Mean.is refl

pub returns-in-Old : goal.returns-in-Old
unfolding mark_for
returns-in-Old c = rw c.in-Old.is refl
