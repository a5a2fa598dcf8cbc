-- `proposed::write_clipped` meets its contract. The loop's invariant: what is left, by the samples as they are now, written and marked, gives
-- the whole. Assumes nothing.
use Prim.Native.Nat.{ℕ}
use mathlib.Core.Path.{◌≡◌}
use mathlib.Core.List.{List}
use Rattle.recording.specs.Recording.{Placed, places, put, each}
use Rattle.recording.specs.Marks.{declip_proposed}
use Rattle.proposed.specs.Proposed.{named}
use Rattle.proposed.proofs.Laws.{rest_named}
use Rattle.proposed.proofs.write_clipped.Given as goal

-- what is left, written, gives the whole; and so with the marks
abbrev pub Writes : List ℕ → List ℕ → List Placed → Type 0
Writes samples whole left = put left samples ≡ whole

abbrev pub Marks : List ℕ → List ℕ → List Placed → Type 0
Marks marks whole left = put (each declip_proposed (places left)) marks ≡ whole

abbrev pub invariant-loop-i : goal.invariant-loop-i
invariant-loop-i l = Writes l.samples (put (named l.threshold l.initial.samples l.proposal) l.initial.samples) (rest_named l.threshold l.samples l.proposal l.i)
    × Marks l.marks (put (each declip_proposed (places (named l.threshold l.initial.samples l.proposal))) l.initial.marks) (rest_named l.threshold l.samples l.proposal l.i)
