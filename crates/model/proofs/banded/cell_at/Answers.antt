-- `model::banded::cell_at` meets its contract: each way out is a line of the rule, and what it reads stands in the
-- band before the place. Assumes nothing.
use Rattle.model.proofs.banded.Laws.{cell_outside, cell_diagonal, cell_below}
use Rattle.model.proofs.banded.cell_at.Goals as goal

pub returns-then-i-d : goal.returns-then-i-d
returns-then-i-d c = cell_outside _ _ _ _ _ c.if-i-d.true

pub returns-then-d-eq0 : goal.returns-then-d-eq0
returns-then-d-eq0 c =
    cell_diagonal _ _ _ _ _ _ _ _ c.if-i-d.false c.saturating_sub.ensures
    c.laid_at.ensures c.minus_products-sum.ensures _ _ c.if-d-eq0.true
    c.larger.ensures c.square_root.ensures.rule

pub returns-else-d-eq0 : goal.returns-else-d-eq0
returns-else-d-eq0 c =
    cell_below _ _ _ _ _ _ _ _ c.if-i-d.false c.saturating_sub.ensures
    c.laid_at.ensures c.minus_products-sum.ensures c.if-d-eq0.false
