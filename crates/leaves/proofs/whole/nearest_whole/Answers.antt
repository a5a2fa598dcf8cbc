-- `nearest_whole` meets its contract: both ways out are laws of `Laws.antt` beside it. Assumes nothing.
use Rattle.std.proofs.Common.{arith}
use Rattle.leaves.proofs.whole.Laws.{at_small, at_shifted}
use Rattle.leaves.proofs.whole.nearest_whole.Goals as goal

pub returns-then-field-lt-HALF : goal.returns-then-field-lt-HALF
returns-then-field-lt-HALF c = at_small _ c.if-field-lt-HALF.true

pub returns : goal.returns
returns c = at_shifted _ c.if-field-lt-HALF.false (omega arith)
