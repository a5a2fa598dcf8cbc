-- `proposed::is_answered` meets its contract: the three tests of the rule, one after the other. Assumes nothing.
use mathlib.Core.Path.{sym, ◌∙◌}
use mathlib.Core.Bool.{true≢false}
use Rattle.proposed.proofs.Laws.{answers_bits, answers_above, answers_below}
use Rattle.proposed.proofs.is_answered.Goals as goal
use Rattle.proposed.proofs.is_answered.Goals.{then-keeps_bits, else-keeps_bits}

pub returns-then-answered_above : goal.returns-then-answered_above
returns-then-answered_above c =
    elim c.if-keeps_bits.branch [
      | then-keeps_bits w ↦ answers_below _ _ _ _ c.keeps_bits.ensures w.if-keeps_bits.true _ _ w.answered_above.ensures
          (sym w.value-is ∙ c.if-answered_above.true) c.answered_below.ensures
      | else-keeps_bits w ↦ absurd (true≢false (sym c.if-answered_above.true ∙ w.value-is ∙ w.if-keeps_bits.false))
    ]

pub returns-else-answered_above : goal.returns-else-answered_above
returns-else-answered_above c =
    elim c.if-keeps_bits.branch [
      | then-keeps_bits w ↦ c.if-answered_above.false ∙ answers_above _ _ _ _ c.keeps_bits.ensures w.if-keeps_bits.true _ w.answered_above.ensures
          (sym w.value-is ∙ c.if-answered_above.false)
      | else-keeps_bits w ↦ c.if-answered_above.false ∙ answers_bits _ _ _ _ c.keeps_bits.ensures w.if-keeps_bits.false
    ]
