-- `inpaint::auto::is_long_enough` meets its contract: each way out is a line of the rule. Assumes nothing.
use Rattle.std.proofs.Common.{sym, ◌∙◌}
use Rattle.inpaint.proofs.auto.Runs.{enough_zeros, enough_other, enough_held}
use Rattle.inpaint.proofs.auto.is_long_enough.Goals as goal

pub returns-then-is_zero_or_nan : goal.returns-then-is_zero_or_nan
returns-then-is_zero_or_nan c = enough_zeros _ _ _ (sym c.is_zero_or_nan.ensures ∙ c.if-is_zero_or_nan.true)

pub returns-then-is_holdable : goal.returns-then-is_holdable
returns-then-is_holdable c =
    enough_held _ _ _ (sym c.is_zero_or_nan.ensures ∙ c.if-is_zero_or_nan.false)
    (sym c.is_holdable.ensures ∙ c.if-is_holdable.true)

pub returns-else-is_holdable : goal.returns-else-is_holdable
returns-else-is_holdable c =
    c.if-is_holdable.false
    ∙ enough_other _ _ _ (sym c.is_zero_or_nan.ensures ∙ c.if-is_zero_or_nan.false)
    (sym c.is_holdable.ensures ∙ c.if-is_holdable.false)
