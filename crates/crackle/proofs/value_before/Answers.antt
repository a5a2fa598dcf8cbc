-- `crackle::value_before` meets its contract: either way out is a case of the rule. Assumes nothing.
use Rattle.crackle.proofs.Judging.{value_first, value_later}
use Rattle.crackle.proofs.value_before.Goals as goal

pub returns-then-detector-eq1 : goal.returns-then-detector-eq1
returns-then-detector-eq1 c = value_first _ _ c.if-detector-eq1.true

pub returns-else-detector-eq1 : goal.returns-else-detector-eq1
returns-else-detector-eq1 c = value_later _ _ _ c.if-detector-eq1.false c.from_middle.ensures
