-- `crackle::take_in` meets its contract: each turn takes in one sample more. Assumes nothing.
use Rattle.std.proofs.Common.{refl, ap, ◌∙◌, arith}
use Rattle.crackle.specs.Pieces.{Holding}
use Rattle.crackle.proofs.Due.{due_none, one_more, same_start}
use Rattle.crackle.proofs.Steps.{piece_more, flags_more, all_taken, all_flagged, next_room}
use Rattle.crackle.proofs.take_in.Goals as goal

pub loop-i-init : goal.loop-i-init
loop-i-init c = let d = c.args.detector in (refl, omega arith, refl, rw (due_none d.start d.taken) refl)

pub with_sample-present-requires : goal.with_sample-present-requires
with_sample-present-requires c =
    let inv = c.loop-i.invariant in
    let pre = c.requires in (
      omega (arith, c.loop-i.auto.held, pre.0),
      next_room _ _ _ _ _ _ _ _ inv.0 inv.1 c.flags_due-given.ensures c.loop-i-test.true (omega (arith, c.loop-i.auto.flags, pre.2)),
      omega (arith, inv.1, c.loop-i-test.true, pre.1),
    )

pub loop-i-preserved : goal.loop-i-preserved
loop-i-preserved c =
    let inv = c.loop-i.invariant in
    let pre = c.requires in
    let step = c.with_sample-present.ensures in
    let read = c.f32_of_word.ensures in (
      ap (λ (h : Holding). h.detector.start) step.0 ∙ same_start _ _ ∙ inv.0,
      ap (λ (h : Holding). h.detector.taken) step.0 ∙ one_more _ _ ∙ omega (arith, inv.1),
      piece_more _ _ _ _ _ _ c.loop-i-test.true read step.0 inv.2,
      flags_more _ _ _ _ _ _ _ _ _ _ _ c.loop-i-test.true read step.0 (omega (arith, c.loop-i.auto.held, pre.0)) inv.0 inv.1
          c.flags_due-given.ensures step.1 inv.3,
    )

pub returns : goal.returns
returns c =
    let inv = c.loop-i.invariant in
    (all_taken _ _ _ _ c.loop-i-test.false inv.2, all_flagged _ _ _ _ _ _ c.loop-i-test.false inv.3)
