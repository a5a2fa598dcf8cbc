-- `recording::undo::saved_wrong` meets its contract. The loop's invariant: the tests of what is left give what the
-- tests of all m saved samples give. Assumes nothing.
use mathlib.Core.Path.{◌≡◌}
use Rattle.recording.specs.Recording.{saved_at}
use Rattle.recording.specs.Inner.{any_wrong}
use Rattle.recording.proofs.undo.Laws.{left_at}
use Rattle.recording.proofs.undo.saved_wrong.Given as goal

abbrev pub invariant-loop-i : goal.invariant-loop-i
invariant-loop-i l = any_wrong l.n l.least (left_at l.journal l.begin l.m l.i) ≡ any_wrong l.n 0 (saved_at l.journal l.begin l.m)
