-- `recording::commit::count_picked` meets its contract. Assumes nothing.
use native.Mathlib.Omega.{arith}
use borrow.Author.Rules.{rules}
use mathlib.Core.Path.{ap, subst}
use native.Mathlib.Nat.{zero-add, add-zero}
use lib.ListN.{length}
use Rattle.recording.proofs.commit.Laws.{pick_end, pick_none, pick_count, picked_all}
use Rattle.recording.proofs.commit.count_picked.Invariants.{Counts}
use Rattle.recording.proofs.commit.count_picked.Goals.{then-work-n-ne0, else-work-n-ne0}
use Rattle.recording.proofs.commit.count_picked.Goals as goal

pub loop-place-init : goal.loop-place-init
loop-place-init c = (omega arith, rw zero-add (ap length (picked_all _ _ (search rules))))

pub loop-place-preserved : goal.loop-place-preserved
loop-place-preserved c =
    let h = c.loop-place-test.true in
    let inv = c.loop-place.invariant.1 in
    elim c.if-work-n-ne0.branch [
      | then-work-n-ne0 w ↦ rw w.m-is (omega arith, pick_count _ _ _ h _ _ w.if-work-n-ne0.true inv)
      | else-work-n-ne0 w ↦ rw w.m-is (omega arith, subst (Counts c.loop-place.m _) (pick_none _ _ _ h w.if-work-n-ne0.false) inv)
    ]

pub returns : goal.returns
returns c = rw add-zero at (subst (Counts c.loop-place.m _) (pick_end _ _ _ c.loop-place-test.false) c.loop-place.invariant.1)
