-- `inpaint::auto::is_zero_or_nan` meets its contract: only a NaN differs from itself. Assumes nothing.
use Rattle.std.proofs.Common.{◌∙◌}
use Rattle.inpaint.proofs.auto.Runs.{zero_word, no_zero_word}
use Rattle.inpaint.proofs.auto.is_zero_or_nan.Goals as goal

pub returns-then-x : goal.returns-then-x
returns-then-x c = c.if-x.true ∙ zero_word _ _ c.f32_of_word-x.ensures c.if-x.true

pub returns-else-x : goal.returns-else-x
returns-else-x c = c.is_nan.ensures.value ∙ no_zero_word _ _ c.f32_of_word-x.ensures c.if-x.false
