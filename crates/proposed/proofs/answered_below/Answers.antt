-- `proposed::answered_below` meets its contract: a sample at or below the negative threshold has an answer in range there, too. Assumes nothing.
use mathlib.Core.Path.{◌∙◌}
use mathlib.Core.Bool.{Bool}
use lib.Ieee.{Float, neg, le}
use Rattle.std.proofs.Common.{ap, not}
use Rattle.proposed.proofs.Laws.{side_in, side_out, side_not}
use Rattle.proposed.proofs.answered_below.Goals as goal

-- at or below the negative threshold
abbrev below : Float → Float → Bool
below threshold y = le y (neg threshold)

pub returns-then-not-f32_of_word-threshold : goal.returns-then-not-f32_of_word-threshold
returns-then-not-f32_of_word-threshold c =
    ap not c.if-not-f32_of_word-threshold.true ∙ side_not (below _) _ _ _ c.f32_of_word.ensures c.if-not-f32_of_word-threshold.true

pub returns-then-in_range : goal.returns-then-in_range
returns-then-in_range c =
    side_in (below _) _ _ _ c.f32_of_word.ensures _ c.in_range.ensures c.if-not-f32_of_word-threshold.false _ c.f32_of_word-then-in_range.ensures
    c.if-in_range.true

pub returns-else-in_range : goal.returns-else-in_range
returns-else-in_range c =
    c.if-in_range.false ∙ side_out (below _) _ _ _ c.f32_of_word.ensures _ c.in_range.ensures c.if-not-f32_of_word-threshold.false c.if-in_range.false
