-- `recording::commit::write_picked` meets its contract. Assumes nothing.
use mathlib.Core.Path.{refl, sym, subst}
use Rattle.recording.specs.Recording.{put}
use Rattle.recording.proofs.commit.Laws.{pick_end, pick_none, pick_write, pick_mark, picked_all}
use Rattle.recording.proofs.commit.write_picked.Invariants.{Writes, Marks}
use Rattle.recording.proofs.commit.write_picked.Goals.{then-work-n-ne0, else-work-n-ne0}
use Rattle.recording.proofs.commit.write_picked.Goals as goal

pub loop-place-init : goal.loop-place-init
loop-place-init c =
    let all = sym (picked_all _ _ c.requires.0) in
    (subst (Writes _ _) all refl, subst (Marks _ _ _) all refl)

pub loop-place-preserved : goal.loop-place-preserved
loop-place-preserved c =
    let h = c.loop-place-test.true in
    let inv = c.loop-place.invariant in
    elim c.if-work-n-ne0.branch [
      | then-work-n-ne0 w ↦
          let some = w.if-work-n-ne0.true in
          rw (w.samples-is, w.marks-is) (pick_write _ _ _ h _ _ some inv.0, pick_mark _ _ _ h _ _ _ some inv.1)
      | else-work-n-ne0 w ↦
          let none = pick_none _ _ _ h w.if-work-n-ne0.false in
          rw (w.samples-is, w.marks-is) (subst (Writes _ _) none inv.0, subst (Marks _ _ _) none inv.1)
    ]

pub returns : goal.returns
unfolding put
returns c =
    let none = pick_end _ _ _ c.loop-place-test.false in
    let inv = c.loop-place.invariant in
    (subst (Writes _ _) none inv.0, subst (Marks _ _ _) none inv.1)
