-- `recording::question::counts_say` meets its contract. Its loop's invariant: what is left to look at decides. Assumes nothing.
use Prim.Native.Nat.{◌+◌, ◌-◌}
use mathlib.Core.Path.{◌≡◌}
use Rattle.recording.specs.Question.{all_are}
use Rattle.recording.proofs.question.counts_say.Given as goal

abbrev pub invariant-loop-i : goal.invariant-loop-i
invariant-loop-i l = all_are 0 l.counts (l.block + l.i) (l.count - l.i) ≡ all_are 0 l.counts l.block l.count
