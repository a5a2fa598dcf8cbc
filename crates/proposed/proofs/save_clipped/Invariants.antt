-- `proposed::save_clipped` meets its contract. The loop's invariant: what is left fits into the journal and, saved there, gives the whole. The
-- measure is how many samples are left. Assumes nothing.
use Prim.Native.Nat.{ℕ, ◌+◌, ◌*◌, ◌≤◌}
use mathlib.Core.Path.{◌≡◌}
use mathlib.Core.List.{List}
use lib.ListN.{length}
use lib.Seq.{sets}
use Rattle.recording.specs.Recording.{saved, three_words}
use Rattle.proposed.specs.Inner.{clipped_places}
use Rattle.proposed.proofs.Laws.{rest_clipped}
use Rattle.proposed.proofs.save_clipped.Given as goal

-- what is left fits into the journal from word `next` on
abbrev pub Fits-in : ℕ → ℕ → List ℕ → Type 0
Fits-in next room left = next + 3 * length left ≤ room

-- what is left, saved there, gives the whole
abbrev pub Saves : List ℕ → List ℕ → List ℕ → ℕ → List ℕ → List ℕ → Type 0
Saves samples marks journal next whole left = sets journal next (three_words (saved samples marks left)) ≡ whole

abbrev pub invariant-loop-i : goal.invariant-loop-i
invariant-loop-i l = Fits-in l.next (length l.initial.journal) (rest_clipped l.threshold l.samples l.i)
    × Saves l.samples l.marks l.journal l.next (sets l.initial.journal l.at (three_words (saved l.samples l.marks (clipped_places l.threshold 0 l.samples))))
    (rest_clipped l.threshold l.samples l.i)
