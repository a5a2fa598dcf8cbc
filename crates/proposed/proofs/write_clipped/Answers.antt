-- `proposed::write_clipped` meets its contract. The loop's invariant: what is left, by the samples as they are now, written and marked, gives
-- the whole. The measure is how many samples are left. Assumes nothing.
use mathlib.Core.Path.{refl, sym, subst, ◌∙◌}
use native.Mathlib.Omega.{arith}
use Prim.Native.Nat.{◌≤◌, ◌<◌}
use lib.ListN.{length}
use Rattle.recording.specs.Recording.{put}
use Rattle.proposed.proofs.Laws.{named_all, named_end, named_none, write_one, mark_one}
use Rattle.proposed.proofs.write_clipped.Invariants.{Writes, Marks}
use Rattle.proposed.proofs.write_clipped.Goals as goal
use Rattle.proposed.proofs.write_clipped.Goals.{then-is_clipped, else-is_clipped}

pub returns : goal.returns
unfolding put
returns c =
    let all : length c.loop-i.samples ≤ c.loop-i.i = omega (arith, c.loop-i-test.false, c.loop-i.auto.samples) in
    let none = named_end _ _ _ _ all in
    let inv = c.loop-i.invariant in
    (subst (Writes _ _) none inv.0, subst (Marks _ _) none inv.1)

pub loop-i-init : goal.loop-i-init
loop-i-init c =
    let all = sym (named_all _ _ _) in
    (subst (Writes _ _) all refl, subst (Marks _ _) all refl)

pub loop-i-preserved : goal.loop-i-preserved
loop-i-preserved c =
    let inv = c.loop-i.invariant in
    let h : c.loop-i.i < length c.loop-i.samples = omega (arith, c.loop-i-test.true, c.loop-i.auto.samples) in
    let same = c.requires.0 ∙ sym c.loop-i.auto.samples in
    elim c.if-is_clipped.branch [
      | then-is_clipped w ↦
          let beyond = sym c.is_clipped.ensures ∙ w.if-is_clipped.true in
          rw (w.samples-is, w.marks-is) (write_one _ _ _ same _ h beyond _ inv.0, mark_one _ _ _ same _ h beyond _ _ _ inv.1)
      | else-is_clipped w ↦
          let none = named_none _ _ _ same _ h (sym c.is_clipped.ensures ∙ w.if-is_clipped.false) in
          rw (w.samples-is, w.marks-is) (subst (Writes _ _) none inv.0, subst (Marks _ _) none inv.1)
    ]
