-- `leaves::order::clamp` meets its contract: its two tests are those of `held`. Assumes nothing.
use Rattle.std.proofs.Common.{refl, sym, ◌∙◌}
use Rattle.leaves.proofs.order.Laws.{held_tests}
use Rattle.leaves.proofs.order.clamp.Goals as goal

pub returns-then-is_below : goal.returns-then-is_below
returns-then-is_below g c = held_tests _ _ _ (sym c.is_below.ensures ∙ c.if-is_below.true) refl

pub returns-then-is_below-2 : goal.returns-then-is_below-2
returns-then-is_below-2 g c =
    held_tests _ _ _ (sym c.is_below.ensures ∙ c.if-is_below.false) (sym c.is_below-else-is_below.ensures ∙ c.if-is_below-2.true)

pub returns-else-is_below-2 : goal.returns-else-is_below-2
returns-else-is_below-2 g c =
    held_tests _ _ _ (sym c.is_below.ensures ∙ c.if-is_below.false) (sym c.is_below-else-is_below.ensures ∙ c.if-is_below-2.false)
