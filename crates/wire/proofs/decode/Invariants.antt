-- `wire::decode` meets its contract. The loop's invariant: storing the words that are left gives the whole. Assumes nothing.
use Rattle.std.proofs.Common.{◌≡◌, ◌+◌, drop}
use Rattle.std.proofs.lemmas.List.Edits.{sets}
use Rattle.wire.specs.Wire.{decoded}
use Rattle.wire.proofs.decode.Given as goal

abbrev pub invariant-loop-i : goal.invariant-loop-i
invariant-loop-i l = sets l.words (l.at + l.i) (drop l.i (decoded l.bytes l.from l.count)) ≡ sets l.initial.words l.at (decoded l.bytes l.from l.count)
