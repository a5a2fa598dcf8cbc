-- `settings::write::write_block` meets its contract. The loop's invariant: storing the words that are left gives the whole. Assumes nothing.
use Rattle.std.proofs.Common.{◌≡◌, ◌+◌, ◌*◌, drop}
use lib.Seq.{sets}
use Rattle.wire.specs.Wire.{encoded}
use Rattle.settings.proofs.write.write_block.Given as goal

abbrev pub invariant-loop-k : goal.invariant-loop-k
invariant-loop-k l = sets l.room (l.bodies + 4 * l.k) (encoded (drop l.k l.words)) ≡ sets l.initial.room l.bodies (encoded l.words)
