-- `crackle::judge` meets its contract: a place is judged at once, or its value is held, and once that is over all that are held are judged. Assumes
-- nothing.
use mathlib.Core.Path.{refl, sym, ◌∙◌}
use Prim.Native.Nat.{◌≤◌}
use native.Mathlib.Omega.{arith}
use borrow.Author.Tests.{not-true, not-false}
use lib.ListN.{length-set}
use Rattle.decrackle.specs.Decrackle.{mean_over}
use Rattle.crackle.proofs.Due.{held_few}
use Rattle.crackle.proofs.Judging.{free_room, judged_one, judged_none, all_room, judged_held}
use Rattle.std.proofs.Common.{ap, not}
use Rattle.crackle.proofs.judge.Goals as goal

pub bounds-flags-at : goal.bounds-flags-at
bounds-flags-at c =
    free_room _ _ _ _ _ c.held_back.ensures (not-true _ (ap not c.if-not-held_back.true)) _ _ c.requires.2

pub returns-then-not-held_back : goal.returns-then-not-held_back
returns-then-not-held_back c =
    judged_one _ _ _ _ _ c.held_back.ensures (not-true _ (ap not c.if-not-held_back.true)) _ _ _ _ _ c.magnitude-a.ensures
    c.raise_floor-floor.ensures c.flag_byte.ensures

pub bounds-held-taken : goal.bounds-held-taken
bounds-held-taken c =
    let few_in : c.args.detector.taken ≤ mean_over = (held_few _ _ (sym c.held_back.ensures ∙ not-false _ (ap not c.if-not-held_back.false))).1 in
    omega (arith, few_in, c.requires.0, c.requires.1)

pub returns-then-not-over : goal.returns-then-not-over
returns-then-not-over c =
    judged_none _ _ _ _ _ c.held_back.ensures (not-false _ (ap not c.if-not-held_back.false)) _ _ refl c.word_of_f32.ensures _ _
    (not-true _ (ap not c.if-not-over.true))

pub sum_held-requires : goal.sum_held-requires
sum_held-requires c =
    let few_in : c.args.detector.taken ≤ mean_over = (held_few _ _ (sym c.held_back.ensures ∙ not-false _ (ap not c.if-not-held_back.false))).1 in
    simp length-set (omega (arith, few_in, c.requires.1))

pub mean_floor-opening-requires : goal.mean_floor-opening-requires
mean_floor-opening-requires c =
    let few_in : c.args.detector.taken ≤ mean_over = (held_few _ _ (sym c.held_back.ensures ∙ not-false _ (ap not c.if-not-held_back.false))).1 in
    few_in

pub judge_held-requires : goal.judge_held-requires
judge_held-requires c =
    let few_in : c.args.detector.taken ≤ mean_over = (held_few _ _ (sym c.held_back.ensures ∙ not-false _ (ap not c.if-not-held_back.false))).1 in
    let pre = c.requires in (
      simp length-set (omega (arith, few_in, pre.1)),
      all_room _ _ _ _ _ c.held_back.ensures (not-false _ (ap not c.if-not-held_back.false)) _ _ refl c.word_of_f32.ensures
          (not-false _ (ap not c.if-not-over.false)) _ _ pre.1 pre.2,
    )

pub returns : goal.returns
returns c =
    judged_held _ _ _ _ _ c.held_back.ensures (not-false _ (ap not c.if-not-held_back.false)) _ _ refl c.word_of_f32.ensures
    (not-false _ (ap not c.if-not-over.false)) _ _ _ _ _ _ c.requires.1 c.sum_held.ensures c.mean_floor-opening.ensures c.judge_held.ensures
