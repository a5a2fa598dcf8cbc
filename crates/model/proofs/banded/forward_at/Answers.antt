-- `model::banded::forward_at` meets its contract: the products taken away are those of the rule, and row i ends
-- within the band. Assumes nothing.
use Rattle.model.proofs.banded.Laws.{forward_place}
use Rattle.model.proofs.banded.forward_at.Goals as goal

pub returns : goal.returns
returns c = forward_place _ _ _ _ _ _ c.saturating_sub.ensures c.minus_products-sum.ensures
