-- `dequant::lattice::reaches` meets its contract: its two tests are those of the rule. Assumes nothing.
use mathlib.Core.Path.{◌∙◌}
use borrow.Author.Tests.{lt-leb}
use Rattle.dequant.proofs.lattice.Laws.{acts_short, acts_long}
use Rattle.dequant.proofs.lattice.reaches.Goals as goal

pub returns-then-least-n : goal.returns-then-least-n
returns-then-least-n c = acts_long _ _ _ c.if-least-n.true

pub returns-else-least-n : goal.returns-else-least-n
returns-else-least-n c = lt-leb _ _ c.if-least-n.false ∙ acts_short _ _ _ c.if-least-n.false
