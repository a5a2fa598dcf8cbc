-- `wire::word_at` meets its contract: the library's number of four bytes is that of the rule. Assumes nothing.
use Rattle.std.proofs.Common.{arith}
use Rattle.wire.specs.Wire.{word_at}
use Rattle.wire.proofs.word_at.Goals as goal

pub returns : goal.returns
unfolding word_at
returns c = omega (arith, c.from_le_bytes.ensures)
