-- `proposed::save_clipped` meets its contract. The loop's invariant: what is left fits into the journal and, saved there, gives the whole. The
-- measure is how many samples are left. Assumes nothing.
use mathlib.Core.Path.{refl, sym, subst, ◌∙◌}
use native.Mathlib.Omega.{arith}
use Rattle.recording.specs.Recording.{saved}
use Rattle.recording.proofs.commit.Laws.{room_more, save_more}
use Rattle.proposed.proofs.Laws.{clip_end, clip_none, clip_one}
use Rattle.proposed.proofs.save_clipped.Invariants.{Fits-in, Saves}
use Rattle.proposed.proofs.save_clipped.Goals as goal
use Rattle.proposed.proofs.save_clipped.Goals.{then-is_clipped, else-is_clipped}

pub save-requires : goal.save-requires
save-requires c =
    let one = clip_one _ _ _ c.loop-i-test.true (sym c.is_clipped.ensures ∙ c.if-is_clipped.true) in
    let room = room_more _ _ _ _ _ one c.loop-i.invariant.0 in
    (omega arith, omega arith, omega arith, omega arith)

pub returns : goal.returns
unfolding saved
returns c = subst (Saves _ _ _ _ _) (clip_end _ _ _ c.loop-i-test.false) c.loop-i.invariant.1

pub loop-i-preserved : goal.loop-i-preserved
loop-i-preserved c =
    let inv = c.loop-i.invariant in
    elim c.if-is_clipped.branch [
      | then-is_clipped w ↦
          let one = clip_one _ _ _ c.loop-i-test.true (sym c.is_clipped.ensures ∙ w.if-is_clipped.true) in
          rw (w.next-is, w.journal-is)
          (room_more _ _ _ _ _ one inv.0, save_more _ _ _ _ _ _ _ _ _ refl w.save.ensures (subst (Saves _ _ _ _ _) one inv.1))
      | else-is_clipped w ↦
          let none = clip_none _ _ _ c.loop-i-test.true (sym c.is_clipped.ensures ∙ w.if-is_clipped.false) in
          rw (w.next-is, w.journal-is) (subst (Fits-in _ _) none inv.0, subst (Saves _ _ _ _ _) none inv.1)
    ]
