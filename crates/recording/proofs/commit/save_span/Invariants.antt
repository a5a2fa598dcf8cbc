-- `recording::commit::save_span` meets its contract. The loop's invariant: saving what is left of the span gives the whole.
-- Assumes nothing.
use Prim.Native.Nat.{◌+◌, ◌-◌, ◌*◌}
use mathlib.Core.Path.{◌≡◌}
use lib.Seq.{sets}
use Rattle.recording.specs.Recording.{saved, three_words}
use Rattle.recording.specs.Inner.{consecutive}
use Rattle.recording.proofs.commit.save_span.Given as goal

abbrev pub invariant-loop-i : goal.invariant-loop-i
invariant-loop-i l = sets l.journal (l.at + 3 * l.i) (three_words (saved l.samples l.marks (consecutive (l.start + l.i) (l.len - l.i))))
    ≡ sets l.initial.journal l.at (three_words (saved l.samples l.marks (consecutive l.start l.len)))
