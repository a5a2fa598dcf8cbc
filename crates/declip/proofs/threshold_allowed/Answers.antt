-- `declip::threshold_allowed` meets its contract: above 0 only plus infinity is not finite. Assumes nothing.
use mathlib.Core.Path.{◌∙◌}
use Rattle.declip.proofs.Laws.{threshold_above, threshold_not_above}
use Rattle.declip.proofs.threshold_allowed.Goals as goal

pub returns-then-threshold : goal.returns-then-threshold
returns-then-threshold c = threshold_above _ c.if-threshold.true

pub returns-else-threshold : goal.returns-else-threshold
returns-else-threshold c = c.if-threshold.false ∙ threshold_not_above _ c.if-threshold.false
