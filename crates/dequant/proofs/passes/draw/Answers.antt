-- `dequant::passes::draw` meets its contract: what the two passes make of the words, and the places that are named. Assumes nothing.
use mathlib.Core.Path.{◌∙◌}
use native.Mathlib.Omega.{arith}
use Rattle.redraw.specs.Inner.{Room}
use Rattle.redraw.proofs.Workspace.{room_stays}
use Rattle.dequant.proofs.lattice.Laws.{acts_size}
use Rattle.dequant.proofs.passes.Laws.{Widens, wide_not, wide_so, wide_size, drawn_not, drawn_so}
use Rattle.std.proofs.Common.{ap, not}
use Rattle.dequant.proofs.passes.draw.Goals as goal
use Rattle.dequant.proofs.passes.draw.Goals.{then-is_wide, else-is_wide}

pub returns-then-not-reaches : goal.returns-then-not-reaches
returns-then-not-reaches c =
    drawn_not _ _ _ _ _ c.strength_of-held.ensures c.requires.0 _ c.reaches.ensures c.requires.1 (ap not c.if-not-reaches.true)

pub first_pass-requires : goal.first_pass-requires
first_pass-requires c =
    (c.requires.0, acts_size _ _ _ _ c.reaches.ensures (ap not c.if-not-reaches.false))

pub second_pass-requires : goal.second_pass-requires
second_pass-requires c =
    let room : let at = c.args in Room at.n c.first_pass.new.work = room_stays _ _ _ c.requires.0 c.first_pass.auto.work in
    (room_stays _ _ _ room c.snapshot.auto.work, wide_size _ _ _ c.is_wide.ensures c.if-is_wide.true)

pub name_inner-requires : goal.name_inner-requires
name_inner-requires c =
    let widens : Widens c.args.n c.step_of-step.result c.strength_of-held.result c.first_pass.new.work c.if-is_wide.work = let room : let at = c.args in Room at.n c.first_pass.new.work = room_stays _ _ _ c.requires.0 c.first_pass.auto.work in
    elim c.if-is_wide.branch [
      | then-is_wide w ↦ wide_so _ _ _ _ _ _ c.is_wide.ensures room _ _ w.if-is_wide.true w.snapshot.ensures w.snapshot.auto.work w.second_pass.ensures
          w.second_pass.auto.work w.work-is
      | else-is_wide w ↦ wide_not _ _ _ _ _ _ c.is_wide.ensures room w.if-is_wide.false w.work-is
    ] in
    let room : let at = c.args in Room at.n c.first_pass.new.work = room_stays _ _ _ c.requires.0 c.first_pass.auto.work in
    (room_stays _ _ _ room widens.count, omega arith)

pub shape_of-work : goal.shape_of-work
shape_of-work c =
    let widens : Widens c.args.n c.step_of-step.result c.strength_of-held.result c.first_pass.new.work c.if-is_wide.work = let room : let at = c.args in Room at.n c.first_pass.new.work = room_stays _ _ _ c.requires.0 c.first_pass.auto.work in
    elim c.if-is_wide.branch [
      | then-is_wide w ↦ wide_so _ _ _ _ _ _ c.is_wide.ensures room _ _ w.if-is_wide.true w.snapshot.ensures w.snapshot.auto.work w.second_pass.ensures
          w.second_pass.auto.work w.work-is
      | else-is_wide w ↦ wide_not _ _ _ _ _ _ c.is_wide.ensures room w.if-is_wide.false w.work-is
    ] in
    c.name_inner.auto.work ∙ widens.count ∙ c.first_pass.auto.work

pub returns : goal.returns
returns c =
    let widens : Widens c.args.n c.step_of-step.result c.strength_of-held.result c.first_pass.new.work c.if-is_wide.work = let room : let at = c.args in Room at.n c.first_pass.new.work = room_stays _ _ _ c.requires.0 c.first_pass.auto.work in
    elim c.if-is_wide.branch [
      | then-is_wide w ↦ wide_so _ _ _ _ _ _ c.is_wide.ensures room _ _ w.if-is_wide.true w.snapshot.ensures w.snapshot.auto.work w.second_pass.ensures
          w.second_pass.auto.work w.work-is
      | else-is_wide w ↦ wide_not _ _ _ _ _ _ c.is_wide.ensures room w.if-is_wide.false w.work-is
    ] in
    drawn_so _ _ _ _ _ c.strength_of-held.ensures c.requires.0 _ c.reaches.ensures _ _ _ _ (ap not c.if-not-reaches.false)
    c.step_of-step.ensures c.first_pass.ensures widens c.name_inner.ensures
