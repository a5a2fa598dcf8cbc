-- `riff::read::store_samples` meets its contract. The loop's invariant: storing the samples of the values that are left gives the whole.
-- Assumes nothing.
use Rattle.std.proofs.Common.{◌≡◌, ◌+◌, ◌-◌, ◌*◌, map}
use lib.Seq.{sets}
use Rattle.wire.specs.Wire.{halves}
use Rattle.riff.specs.Values.{sample_word}
use Rattle.riff.proofs.read.store_samples.Given as goal

abbrev pub invariant-loop-i : goal.invariant-loop-i
invariant-loop-i l = sets l.samples l.i (map sample_word (halves l.file (l.from + 2 * l.i) (l.count - l.i))) ≡ sets l.initial.samples 0 (map sample_word (halves l.file l.from l.count))
