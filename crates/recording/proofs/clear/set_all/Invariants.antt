use Rattle.std.proofs.Common.{◌≡◌, replicate, ◌-◌}
use Rattle.std.proofs.lemmas.List.Edits.{sets}
use Rattle.recording.proofs.clear.set_all.Given as goal

abbrev pub invariant-loop-i : goal.invariant-loop-i
invariant-loop-i g l = sets l.items l.i (replicate (l.count - (l.i - l.start)) l.value) ≡ sets l.initial.items l.start (replicate l.count l.value)
