-- `riff::chunks::first_named` meets its contract. The loop's invariant: the walk from here on ends with the file, and the first such chunk
-- from here on is the first of all. The measure is what is left of the file. Assumes nothing.
use Rattle.std.proofs.Common.{◌≡◌, ◌-◌, ◌≤◌, length}
use Rattle.riff.specs.Chunks.{named, chunks_from, end_from, first_of}
use Rattle.riff.specs.Wav.{first_named}
use Rattle.riff.proofs.chunks.first_named.Given as goal

abbrev pub invariant-loop-at : goal.invariant-loop-at
invariant-loop-at l = (l.at ≤ length l.file) × (end_from l.file l.at ≡ length l.file)
    × (first_of (named l.file l.name l.fewest) (length l.file) (chunks_from l.file l.at) ≡ first_named l.name l.fewest l.file)

abbrev pub decreases-loop-at : goal.decreases-loop-at
decreases-loop-at l = length l.file - l.at
