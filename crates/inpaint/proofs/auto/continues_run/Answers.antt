-- `inpaint::auto::continues_run` meets its contract: each way out is a line of the rule. Assumes nothing.
use Rattle.std.proofs.Common.{sym, ◌∙◌, ne_eqb}
use Rattle.inpaint.proofs.auto.Runs.{continues_zeros, continues_other, continues_held}
use Rattle.inpaint.proofs.auto.continues_run.Goals as goal

pub returns-then-is_zero_or_nan : goal.returns-then-is_zero_or_nan
returns-then-is_zero_or_nan c =
    c.is_zero_or_nan-then-is_zero_or_nan.ensures
    ∙ continues_zeros _ _ (sym c.is_zero_or_nan.ensures ∙ c.if-is_zero_or_nan.true)

pub returns-then-before-word : goal.returns-then-before-word
returns-then-before-word c =
    c.is_holdable.ensures
    ∙ continues_held _ _ (sym c.is_zero_or_nan.ensures ∙ c.if-is_zero_or_nan.false) c.if-before-word.true

pub returns-else-before-word : goal.returns-else-before-word
returns-else-before-word c =
    ne_eqb _ _ c.if-before-word.false
    ∙ continues_other _ _ (sym c.is_zero_or_nan.ensures ∙ c.if-is_zero_or_nan.false) c.if-before-word.false
