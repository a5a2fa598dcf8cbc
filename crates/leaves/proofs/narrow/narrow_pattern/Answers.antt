-- `narrow_pattern` meets its contract: each way out is a law of `Laws.antt` beside it. Assumes nothing.
use Rattle.leaves.proofs.narrow.Laws.{at_nan, at_infinity, at_normal, at_subnormal, at_zero}
use Rattle.leaves.proofs.narrow.narrow_pattern.Goals as goal

pub returns-then-bits-gt-INFINITY64 : goal.returns-then-bits-gt-INFINITY64
returns-then-bits-gt-INFINITY64 c = at_nan _ c.requires c.if-bits-gt-INFINITY64.true

pub returns-then-field-ge-TOO_LARGE : goal.returns-then-field-ge-TOO_LARGE
returns-then-field-ge-TOO_LARGE c = at_infinity _ c.if-bits-gt-INFINITY64.false c.if-field-ge-TOO_LARGE.true

pub returns-then-field-ge-NORMAL : goal.returns-then-field-ge-NORMAL
returns-then-field-ge-NORMAL c = at_normal _ _ c.if-field-ge-NORMAL.true c.if-field-ge-TOO_LARGE.false c.nearest_quotient.ensures

pub returns-then-field-ge-LEAST : goal.returns-then-field-ge-LEAST
returns-then-field-ge-LEAST c = at_subnormal _ _ c.if-field-ge-LEAST.true c.if-field-ge-NORMAL.false c.nearest_quotient-then-field-ge-LEAST.ensures

pub returns-else-field-ge-LEAST : goal.returns-else-field-ge-LEAST
returns-else-field-ge-LEAST c = at_zero _ c.if-field-ge-LEAST.false
