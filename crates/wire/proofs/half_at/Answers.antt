-- `wire::half_at` meets its contract: the library's number of two bytes is that of the rule. Assumes nothing.
use Rattle.std.proofs.Common.{arith}
use Rattle.wire.specs.Wire.{half_at}
use Rattle.wire.proofs.half_at.Goals as goal

pub returns : goal.returns
unfolding half_at
returns c = omega (arith, c.from_le_bytes.ensures)
