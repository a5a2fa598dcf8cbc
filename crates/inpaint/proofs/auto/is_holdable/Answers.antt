-- `inpaint::auto::is_holdable` meets its contract: a word in range is no NaN, and is held if it is not zero. Assumes nothing.
use Rattle.std.proofs.Common.{sym, ◌∙◌}
use Rattle.inpaint.proofs.auto.Runs.{holdable_out, holdable_in}
use Rattle.inpaint.proofs.auto.is_holdable.Goals as goal

pub returns-then-in_range : goal.returns-then-in_range
returns-then-in_range c = holdable_in _ _ (sym c.in_range.ensures ∙ c.if-in_range.true) c.f32_of_word.ensures

pub returns-else-in_range : goal.returns-else-in_range
returns-else-in_range c = c.if-in_range.false ∙ holdable_out _ (sym c.in_range.ensures ∙ c.if-in_range.false)
