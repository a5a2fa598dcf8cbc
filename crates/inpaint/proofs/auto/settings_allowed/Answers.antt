-- `inpaint::auto::settings_allowed` meets its contract: between the infinities lies every finite float and no other.
-- Assumes nothing.
use Rattle.std.proofs.Common.{sym, ◌∙◌}
use borrow.Author.Tests.{lt-leb}
use Rattle.inpaint.proofs.auto.Laws.{rate_past, limit_between, limit_beyond}
use Rattle.inpaint.proofs.auto.Runs.{both}
use Rattle.inpaint.proofs.auto.settings_allowed.Goals as goal
use Rattle.inpaint.proofs.auto.settings_allowed.Goals.{then-rate-le-MOST_RATE, else-rate-le-MOST_RATE}

pub returns-then-millis-infinity : goal.returns-then-millis-infinity
returns-then-millis-infinity c =
    elim c.if-rate-le-MOST_RATE.branch [
      | then-rate-le-MOST_RATE w ↦ limit_between _ _ w.if-rate-le-MOST_RATE.true (sym w.value-is ∙ c.if-millis-infinity.true)
      | else-rate-le-MOST_RATE w ↦ both (sym w.value-is ∙ c.if-millis-infinity.true) (lt-leb _ _ w.if-rate-le-MOST_RATE.false)
    ]

pub returns-else-millis-infinity : goal.returns-else-millis-infinity
returns-else-millis-infinity c =
    elim c.if-rate-le-MOST_RATE.branch [
      | then-rate-le-MOST_RATE w ↦ c.if-millis-infinity.false ∙ limit_beyond _ _ w.if-rate-le-MOST_RATE.true (sym w.value-is ∙ c.if-millis-infinity.false)
      | else-rate-le-MOST_RATE w ↦ c.if-millis-infinity.false ∙ rate_past _ _ w.if-rate-le-MOST_RATE.false
    ]
