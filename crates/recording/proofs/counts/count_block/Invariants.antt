-- `recording::counts::count_block` meets its contract. The loop's invariant: what is counted and what is left give the count.
-- Assumes nothing.
use Prim.Native.Nat.{◌+◌, ◌-◌, ◌≤◌}
use mathlib.Core.Path.{◌≡◌}
use Rattle.recording.specs.Counts.{unmeasured, count_of}
use Rattle.recording.proofs.counts.count_block.Given as goal

abbrev pub invariant-loop-i : goal.invariant-loop-i
invariant-loop-i l = (l.count ≤ l.i) × (l.count + unmeasured l.marks (l.begin + l.i) (l.size - l.i) ≡ count_of l.marks l.block)
