-- `wire::store_half` meets its contract: the library's bytes of a number are those of the rule, and copying them in is to
-- store them. Assumes nothing.
use Rattle.std.proofs.Common.{arith, ◌∙◌}
use Rattle.wire.specs.Wire.{half_bytes}
use Rattle.leaves.proofs.Stores.{copied_in}
use Rattle.wire.proofs.store_half.Goals as goal

pub returns : goal.returns
unfolding half_bytes
returns c =
    copied_in _ _ _ _ _ (c.copy_from_slice.ensures.after ∙ c.to_le_bytes.ensures) (omega arith) (omega arith)
