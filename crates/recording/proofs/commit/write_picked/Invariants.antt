-- `recording::commit::write_picked` meets its contract. The loop's invariant: writing and marking what is left gives the whole. Assumes
-- nothing.
use Prim.Native.Nat.{ℕ}
use mathlib.Core.Path.{◌≡◌}
use mathlib.Core.List.{List}
use Rattle.recording.specs.Recording.{Placed, places, put, each}
use Rattle.recording.specs.Inner.{picked_by}
use Rattle.recording.proofs.commit.Laws.{rest_picked}
use Rattle.recording.proofs.commit.write_picked.Given as goal

-- what is left, written, gives the whole; and so with the marks
abbrev pub Writes : List ℕ → List ℕ → List Placed → Type 0
Writes samples whole left = put left samples ≡ whole

abbrev pub Marks : ℕ → List ℕ → List ℕ → List Placed → Type 0
Marks mark marks whole left = put (each mark (places left)) marks ≡ whole

abbrev pub invariant-loop-place : goal.invariant-loop-place
invariant-loop-place l = Writes l.samples (put (picked_by l.work l.n) l.initial.samples) (rest_picked l.work l.n l.place)
    × Marks l.mark l.marks (put (each l.mark (places (picked_by l.work l.n))) l.initial.marks) (rest_picked l.work l.n l.place)
