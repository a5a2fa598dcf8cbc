-- `decrackle::repair_hermite` meets its contract. The loop's invariant: storing the curve's samples that are left gives the whole,
-- and what stands behind the words is as it was. Assumes nothing.
use mathlib.Core.Path.{◌∙◌}
use Rattle.decrackle.proofs.Curves.{curve_stored, curve_behind, curve_all, curve_is}
use Rattle.decrackle.proofs.repair_hermite.Goals as goal

pub loop-k-preserved : goal.loop-k-preserved
loop-k-preserved c =
    let inv = c.loop-k.invariant in
    let h = c.requires in (
      curve_behind _ _ _ _ _ _ _ c.loop-k-test.true h.2 h.3 inv.0,
      curve_stored _ _ _ _ _ _ _ _ _ _ _ _ c.loop-k-test.true h.2 h.3 c.hermite_word.ensures inv.1,
    )

pub returns : goal.returns
returns c =
    let inv = c.loop-k.invariant in
    let h = c.requires in (
      curve_all _ _ _ _ _ _ _ _ _ _ c.loop-k-test.false inv.1
          ∙ curve_is _ _ _ _ _ _ _ _ _ h.1 h.2 h.3 c.f32_of_word-p0.ensures c.f32_of_word-p1.ensures
          c.slope_before-m0.ensures c.slope_behind-m1.ensures c.count_as_f32-span.ensures,
      inv.0,
    )
