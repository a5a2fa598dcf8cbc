-- `proposed::answered_above` meets its contract: a sample at or above the threshold has an answer in range there, too. Assumes nothing.
use mathlib.Core.Path.{◌∙◌}
use lib.Ieee.{le}
use Rattle.std.proofs.Common.{ap, not}
use Rattle.proposed.proofs.Laws.{side_in, side_out, side_not}
use Rattle.proposed.proofs.answered_above.Goals as goal

pub returns-then-not-threshold-f32_of_word : goal.returns-then-not-threshold-f32_of_word
returns-then-not-threshold-f32_of_word c =
    ap not c.if-not-threshold-f32_of_word.true ∙ side_not (le _) _ _ _ c.f32_of_word.ensures c.if-not-threshold-f32_of_word.true

pub returns-then-in_range : goal.returns-then-in_range
returns-then-in_range c =
    side_in (le _) _ _ _ c.f32_of_word.ensures _ c.in_range.ensures c.if-not-threshold-f32_of_word.false _ c.f32_of_word-then-in_range.ensures
    c.if-in_range.true

pub returns-else-in_range : goal.returns-else-in_range
returns-else-in_range c =
    c.if-in_range.false ∙ side_out (le _) _ _ _ c.f32_of_word.ensures _ c.in_range.ensures c.if-not-threshold-f32_of_word.false c.if-in_range.false
