-- `proposed::count_clipped` meets its contract. The loop's invariant: with m counted, what is left gives the whole number. Assumes nothing.
use Prim.Native.Nat.{ℕ, ◌+◌, ◌≤◌}
use mathlib.Core.Path.{◌≡◌}
use mathlib.Core.List.{List}
use lib.ListN.{length}
use Rattle.proposed.specs.Inner.{clipped_places}
use Rattle.proposed.proofs.Laws.{rest_clipped}
use Rattle.proposed.proofs.count_clipped.Given as goal

-- with m counted, what is left gives the whole number
abbrev pub Counts : ℕ → ℕ → List ℕ → Type 0
Counts m whole left = m + length left ≡ whole

abbrev pub invariant-loop-i : goal.invariant-loop-i
invariant-loop-i l = (l.m ≤ l.i) × Counts l.m (length (clipped_places l.threshold 0 l.fn.recording.samples.now)) (rest_clipped l.threshold l.fn.recording.samples.now l.i)
