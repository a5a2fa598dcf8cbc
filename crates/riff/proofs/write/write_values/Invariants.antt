-- `riff::write::write_values` meets its contract. The loop's invariant: storing the values that are left gives the whole. Assumes nothing.
use Rattle.std.proofs.Common.{◌≡◌, ◌+◌, ◌*◌, List, ℕ, map, drop}
use lib.Seq.{sets}
use Rattle.wire.specs.Wire.{encoded_halves}
use Rattle.riff.specs.Values.{value_of}
use Rattle.riff.proofs.write.write_values.Given as goal

-- the bytes of these samples' values
abbrev pub bytes_of : List ℕ → List ℕ
bytes_of samples = encoded_halves (map value_of samples)

abbrev pub invariant-loop-i : goal.invariant-loop-i
invariant-loop-i l = sets l.out (44 + 2 * l.i) (bytes_of (drop l.i l.samples)) ≡ sets l.initial.out 44 (bytes_of l.samples)
