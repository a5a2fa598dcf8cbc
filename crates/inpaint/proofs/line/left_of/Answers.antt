-- `inpaint::line::left_of` meets its contract: a sample where there is one, and else 0. Assumes nothing.
use Rattle.inpaint.proofs.line.Laws.{left_none, left_some}
use Rattle.inpaint.proofs.line.left_of.Goals as goal

pub returns-then-start-eq0 : goal.returns-then-start-eq0
returns-then-start-eq0 c = left_none _ _ c.if-start-eq0.true

pub returns-else-start-eq0 : goal.returns-else-start-eq0
returns-else-start-eq0 c = left_some _ _ _ c.if-start-eq0.false c.f32_of_word.ensures
