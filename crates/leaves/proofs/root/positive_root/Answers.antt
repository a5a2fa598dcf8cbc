-- `positive_root` meets its contract: the digits that it hands on are 53, and with their scale they are the number of
-- the pattern (`Steps.antt` beside it). Assumes nothing.
use Rattle.std.proofs.Common.{◌≡◌, ℕ, ◌/◌, ◌%◌, ◌^◌, ◌≤◌, arith}
use Rattle.leaves.proofs.root.Steps.{Raised, raised, subnormal_value, normal_value}
use Rattle.leaves.proofs.root.positive_root.Goals as goal

-- the digits of a subnormal double, moved up
up : (bits : ℕ) → 1 ≤ bits → bits / 2 ^ 52 ≡ 0 → Raised (bits % 2 ^ 52)
up bits h e = raised (bits % 2 ^ 52) (omega arith) (omega arith)

moved : (c : goal.Then-field-eq0) → Raised (c.args.bits % 2 ^ 52)
moved c = up _ c.requires.0 c.if-field-eq0.true

pub overflow_sub-shift : goal.overflow_sub-shift
overflow_sub-shift c = (moved c).eleven

pub scaled_root-requires : goal.scaled_root-requires
scaled_root-requires c = ((moved c).least, ((moved c).most, omega arith))

pub returns-then-field-eq0 : goal.returns-then-field-eq0
returns-then-field-eq0 c = c.scaled_root.ensures _ (subnormal_value _ c.if-field-eq0.true (moved c.before))

pub returns-else-field-eq0 : goal.returns-else-field-eq0
returns-else-field-eq0 c = c.scaled_root-else-field-eq0.ensures _ (normal_value _ (omega arith) c.requires.1)
