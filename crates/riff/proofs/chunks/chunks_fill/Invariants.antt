-- `riff::chunks::chunks_fill` meets its contract. The loop's invariant: the walk from here on ends where the whole walk does. The measure is
-- what is left of the file. Assumes nothing.
use Rattle.std.proofs.Common.{◌≡◌, ◌-◌, ◌≤◌, length}
use Rattle.riff.specs.Chunks.{end_from}
use Rattle.riff.specs.Wav.{first_chunk}
use Rattle.riff.proofs.chunks.chunks_fill.Given as goal

abbrev pub invariant-loop-at : goal.invariant-loop-at
invariant-loop-at l = (l.at ≤ length l.file) × (end_from l.file l.at ≡ end_from l.file first_chunk)

abbrev pub decreases-loop-at : goal.decreases-loop-at
decreases-loop-at l = length l.file - l.at
