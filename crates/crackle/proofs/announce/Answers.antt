-- `crackle::announce` meets its contract: each way out is a line of the rule. Assumes nothing.
use Rattle.std.proofs.Common.{sym}
use Rattle.crackle.proofs.Steps.{announced_many, announced_nan, announced_begun}
use Rattle.crackle.proofs.announce.Goals as goal

pub returns-then-total-gt-MOST_SAMPLES : goal.returns-then-total-gt-MOST_SAMPLES
returns-then-total-gt-MOST_SAMPLES c = announced_many _ _ _ c.if-total-gt-MOST_SAMPLES.true

pub returns-then-is_nan : goal.returns-then-is_nan
returns-then-is_nan c = announced_nan _ _ _ c.if-total-gt-MOST_SAMPLES.false (sym c.if-is_nan.ensures.value)

pub returns : goal.returns
returns c = announced_begun _ _ _ c.if-total-gt-MOST_SAMPLES.false _ (sym c.if-is_nan.ensures.value) c.factor_for.ensures
