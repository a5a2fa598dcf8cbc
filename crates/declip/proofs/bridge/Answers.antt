-- `declip::bridge` meets its contract: either way is a line of the rule. Assumes nothing.
use Rattle.declip.proofs.Laws.{bridge_long, bridge_short}
use Rattle.declip.proofs.bridge.Goals as goal

pub returns-then-a-z : goal.returns-then-a-z
returns-then-a-z c =
    bridge_long _ _ _ _ _ _ _ c.saturating_sub-a.ensures c.min.ensures
    c.min-z.ensures _ c.if-a-z.true
    c.cubic_fill.ensures

pub returns-else-a-z : goal.returns-else-a-z
returns-else-a-z c =
    bridge_short _ _ _ _ _ _ _ c.saturating_sub-a.ensures c.min.ensures
    c.min-z.ensures c.if-a-z.false
