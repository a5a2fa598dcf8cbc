-- `recording::counts::count_all` meets its contract. The loop's invariant: counting what is left gives the whole. Assumes nothing.
use Prim.Native.Nat.{◌-◌}
use mathlib.Core.Path.{◌≡◌}
use lib.ListN.{length}
use lib.Seq.{sets}
use Rattle.recording.specs.Counts.{counts_from, counted}
use Rattle.recording.proofs.counts.count_all.Given as goal

abbrev pub invariant-loop-next : goal.invariant-loop-next
invariant-loop-next l = sets l.counts l.next (counts_from l.marks l.next (length l.initial.counts - l.next)) ≡ counted l.marks
