-- `recording::commit::check_picked` meets its contract. The loop's invariant: the test of what is left gives the answer of
-- the whole. Assumes nothing.
use mathlib.Core.Path.{◌≡◌}
use Rattle.recording.specs.Recording.{ranged}
use Rattle.recording.specs.Inner.{picked_by}
use Rattle.recording.proofs.commit.Laws.{rest_picked}
use Rattle.recording.proofs.commit.check_picked.Given as goal

abbrev pub invariant-loop-place : goal.invariant-loop-place
invariant-loop-place l = ranged (rest_picked l.work l.n l.place) ≡ ranged (picked_by l.work l.n)
