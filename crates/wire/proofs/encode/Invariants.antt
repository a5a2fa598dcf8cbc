-- `wire::encode` meets its contract. The loop's invariant: storing the bytes of the words that are left gives the whole. Assumes nothing.
use Rattle.std.proofs.Common.{◌≡◌, ◌+◌, ◌*◌, drop}
use Rattle.std.proofs.lemmas.List.Edits.{sets}
use Rattle.wire.specs.Wire.{encoded}
use Rattle.wire.proofs.encode.Given as goal

abbrev pub invariant-loop-i : goal.invariant-loop-i
invariant-loop-i l = sets l.bytes (l.at + 4 * l.i) (encoded (drop l.i l.words)) ≡ sets l.initial.bytes l.at (encoded l.words)
