-- `inpaint::line::right_of` meets its contract: a sample where there is one, and else 0. Assumes nothing.
use Rattle.inpaint.proofs.line.Laws.{right_none, right_some}
use Rattle.inpaint.proofs.line.right_of.Goals as goal

pub returns-then-samples-end : goal.returns-then-samples-end
returns-then-samples-end c = right_none _ _ c.if-samples-end.true

pub returns-else-samples-end : goal.returns-else-samples-end
returns-else-samples-end c = right_some _ _ _ c.if-samples-end.false c.f32_of_word.ensures
