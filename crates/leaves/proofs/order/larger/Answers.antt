-- `leaves::order::larger` meets its contract: its two tests are those of `larger`. Assumes nothing.
use Rattle.std.proofs.Common.{refl, ◌∙◌, sym}
use Rattle.leaves.proofs.order.Laws.{both, larger_tests, differs_tells}
use Rattle.leaves.proofs.order.larger.Goals as goal
use Rattle.leaves.proofs.order.larger.Goals.{then-ne, else-ne}

pub returns-then-is_below : goal.returns-then-is_below
returns-then-is_below g c =
    let r = g.met.R.Real in
    elim c.if-ne.branch [
      | then-ne w ↦ larger_tests _ _ (differs_tells _ (r.compared _ _) c.ne.ensures w.if-ne.true) refl
      | else-ne w ↦
          larger_tests _ _ (differs_tells _ (r.compared _ _) c.ne.ensures w.if-ne.false)
          (sym w.is_below.ensures ∙ (sym w.value-is ∙ c.if-is_below.true))
    ]

pub returns-else-is_below : goal.returns-else-is_below
returns-else-is_below g c =
    let r = g.met.R.Real in
    elim c.if-ne.branch [
      | then-ne w ↦ both (w.value-is ∙ w.if-ne.true) c.if-is_below.false
      | else-ne w ↦
          larger_tests _ _ (differs_tells _ (r.compared _ _) c.ne.ensures w.if-ne.false)
          (sym w.is_below.ensures ∙ (sym w.value-is ∙ c.if-is_below.false))
    ]
