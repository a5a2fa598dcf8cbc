-- `proposed::count_clipped` meets its contract. The loop's invariant: with m counted, what is left gives the whole number. The measure is
-- how many samples are left. Assumes nothing.
use mathlib.Core.Path.{sym, subst, ◌∙◌}
use native.Mathlib.Omega.{arith}
use native.Mathlib.Nat.{add-zero}
use Rattle.recording.proofs.commit.Laws.{count_more}
use Rattle.proposed.proofs.Laws.{clip_end, clip_none, clip_one}
use Rattle.proposed.proofs.count_clipped.Invariants.{Counts}
use Rattle.proposed.proofs.count_clipped.Goals as goal
use Rattle.proposed.proofs.count_clipped.Goals.{then-is_clipped, else-is_clipped}

pub returns : goal.returns
returns c = rw add-zero at (subst (Counts c.loop-i.m _) (clip_end _ _ _ c.loop-i-test.false) c.loop-i.invariant.1)

pub loop-i-preserved : goal.loop-i-preserved
loop-i-preserved c =
    let inv = c.loop-i.invariant in
    elim c.if-is_clipped.branch [
      | then-is_clipped w ↦
          rw w.m-is (omega arith, count_more _ _ _ _ _ (clip_one _ _ _ c.loop-i-test.true (sym c.is_clipped.ensures ∙ w.if-is_clipped.true)) inv.1)
      | else-is_clipped w ↦
          rw w.m-is
          (omega arith, subst (Counts c.loop-i.m _) (clip_none _ _ _ c.loop-i-test.true (sym c.is_clipped.ensures ∙ w.if-is_clipped.false)) inv.1)
    ]
