-- `recording::commit::count_picked` meets its contract. The loop's invariant: what is counted and what is left give the whole
-- number. Assumes nothing.
use Prim.Native.Nat.{ℕ, ◌+◌, ◌≤◌}
use mathlib.Core.Path.{◌≡◌}
use mathlib.Core.List.{List}
use lib.ListN.{length}
use Rattle.recording.specs.Recording.{Placed}
use Rattle.recording.specs.Inner.{picked_by}
use Rattle.recording.proofs.commit.Laws.{rest_picked}
use Rattle.recording.proofs.commit.count_picked.Given as goal

-- with m counted, what is left gives the whole number
abbrev pub Counts : ℕ → ℕ → List Placed → Type 0
Counts m whole left = m + length left ≡ whole

abbrev pub invariant-loop-place : goal.invariant-loop-place
invariant-loop-place l = (l.m ≤ l.place) × Counts l.m (length (picked_by l.work l.n)) (rest_picked l.work l.n l.place)
