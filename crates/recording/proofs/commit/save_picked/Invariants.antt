-- `recording::commit::save_picked` meets its contract. The loop's invariant: what is left fits, and saving it gives the whole. Assumes
-- nothing.
use Prim.Native.Nat.{ℕ, ◌+◌, ◌*◌, ◌≤◌}
use mathlib.Core.Path.{◌≡◌}
use mathlib.Core.List.{List}
use lib.ListN.{length}
use lib.Seq.{sets}
use Rattle.recording.specs.Recording.{Placed, places, saved, three_words}
use Rattle.recording.specs.Inner.{picked_by}
use Rattle.recording.proofs.commit.Laws.{rest_picked}
use Rattle.recording.proofs.commit.save_picked.Given as goal

-- what is left fits into the journal from word `next` on
abbrev pub Fits-in : ℕ → ℕ → List Placed → Type 0
Fits-in next room left = next + 3 * length left ≤ room

-- what is left, saved there, gives the whole
abbrev pub Saves : List ℕ → List ℕ → List ℕ → ℕ → List ℕ → List Placed → Type 0
Saves samples marks journal next whole left = sets journal next (three_words (saved samples marks (places left))) ≡ whole

abbrev pub invariant-loop-place : goal.invariant-loop-place
invariant-loop-place l = Fits-in l.next (length l.initial.journal) (rest_picked l.work l.n l.place)
    × Saves l.samples l.marks l.journal l.next (sets l.initial.journal l.at (three_words (saved l.samples l.marks (places (picked_by l.work l.n)))))
    (rest_picked l.work l.n l.place)
