-- `recording::commit::check_picked` meets its contract. Assumes nothing.
use borrow.Author.Rules.{rules}
use mathlib.Core.Path.{sym, ap, ◌∙◌}
use Rattle.recording.specs.Recording.{ranged}
use Rattle.recording.proofs.commit.Laws.{pick_end, pick_none, pick_in, pick_out, picked_all}
use Rattle.recording.proofs.commit.check_picked.Goals.{else-work-n-ne0-via-then-work-n-ne0+else-not-in_range, else-work-n-ne0-via-else-work-n-ne0}
use Rattle.recording.proofs.commit.check_picked.Goals as goal

pub loop-place-init : goal.loop-place-init
loop-place-init c = ap ranged (picked_all _ _ (search rules))

pub returns-then-not-in_range : goal.returns-then-not-in_range
returns-then-not-in_range c =
    sym (pick_out _ _ _ c.loop-place-test.true c.if-work-n-ne0.true (sym c.in_range.ensures ∙ c.if-not-in_range.true))
    ∙ c.loop-place.invariant

pub loop-place-preserved : goal.loop-place-preserved
loop-place-preserved c =
    elim c.else-work-n-ne0.branch [
      | else-work-n-ne0-via-then-work-n-ne0+else-not-in_range w ↦
          sym (pick_in _ _ _ c.loop-place-test.true w.if-work-n-ne0.true (sym w.in_range.ensures ∙ w.if-not-in_range.false))
          ∙ c.loop-place.invariant
      | else-work-n-ne0-via-else-work-n-ne0 w ↦
          sym (ap ranged (pick_none _ _ _ c.loop-place-test.true w.if-work-n-ne0.false)) ∙ c.loop-place.invariant
    ]

pub returns : goal.returns
unfolding ranged
returns c = sym (ap ranged (pick_end _ _ _ c.loop-place-test.false)) ∙ c.loop-place.invariant
