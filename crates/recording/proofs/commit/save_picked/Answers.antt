-- `recording::commit::save_picked` meets its contract. Assumes nothing.
use native.Mathlib.Omega.{arith}
use mathlib.Core.Path.{refl, sym, subst}
use Rattle.recording.specs.Recording.{saved}
use Rattle.recording.proofs.commit.Laws.{pick_end, pick_none, pick_room, pick_save, picked_all}
use Rattle.recording.proofs.commit.save_picked.Invariants.{Fits-in, Saves}
use Rattle.recording.proofs.commit.save_picked.Goals.{then-work-n-ne0, else-work-n-ne0}
use Rattle.recording.proofs.commit.save_picked.Goals as goal

pub loop-place-init : goal.loop-place-init
loop-place-init c =
    let pre = c.requires in
    (subst (Fits-in _ _) (sym (picked_all _ _ pre.1)) pre.0, subst (Saves _ _ _ _ _) (sym (picked_all _ _ pre.1)) refl)

pub save-requires : goal.save-requires
save-requires c =
    let room = pick_room _ _ _ c.loop-place-test.true _ _ c.if-work-n-ne0.true c.loop-place.invariant.0 in
    (omega arith, omega arith, omega arith, omega arith)

pub loop-place-preserved : goal.loop-place-preserved
loop-place-preserved c =
    let h = c.loop-place-test.true in
    let inv = c.loop-place.invariant in
    elim c.if-work-n-ne0.branch [
      | then-work-n-ne0 w ↦
          let some = w.if-work-n-ne0.true in
          rw (w.next-is, w.journal-is) (pick_room _ _ _ h _ _ some inv.0, pick_save _ _ _ h _ _ _ _ _ _ some w.save.ensures inv.1)
      | else-work-n-ne0 w ↦
          let none = pick_none _ _ _ h w.if-work-n-ne0.false in
          rw (w.next-is, w.journal-is) (subst (Fits-in _ _) none inv.0, subst (Saves _ _ _ _ _) none inv.1)
    ]

pub returns : goal.returns
unfolding saved
returns c = subst (Saves _ _ _ _ _) (pick_end _ _ _ c.loop-place-test.false) c.loop-place.invariant.1
