-- `model::banded::backward_at` meets its contract: the products taken away are those of the rule, and the rows
-- down to the last that is read end within the band. Assumes nothing.
use Rattle.model.proofs.banded.Laws.{backward_place}
use Rattle.model.proofs.banded.backward_at.Goals as goal

pub returns : goal.returns
returns c = backward_place _ _ _ _ _ _ _ c.min-high.ensures c.minus_column-sum.ensures
