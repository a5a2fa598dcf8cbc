-- `model::banded::laid_at` meets its contract: its test is that of the rule, and its literal is 1e-6. Assumes
-- nothing.
use Rattle.model.proofs.banded.Laws.{laid_diagonal, laid_below}
use Rattle.model.proofs.banded.laid_at.Goals as goal

pub returns-then-d-eq0 : goal.returns-then-d-eq0
returns-then-d-eq0 c = laid_diagonal _ _ c.if-d-eq0.true

pub returns-else-d-eq0 : goal.returns-else-d-eq0
returns-else-d-eq0 c = laid_below _ _ c.if-d-eq0.false
