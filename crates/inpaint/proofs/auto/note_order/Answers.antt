-- `inpaint::auto::note_order` meets its contract: a refused gap and a straight line leave the list, and a gap by the model has
-- its order written. Assumes nothing.
use Rattle.std.proofs.Common.{refl}
use Rattle.inpaint.proofs.auto.Laws.{noted_model, noted_line}
use Rattle.inpaint.proofs.auto.note_order.Goals as goal

pub returns-then-gap-le-MAX_SOLVE : goal.returns-then-gap-le-MAX_SOLVE
returns-then-gap-le-MAX_SOLVE c =
    let gap = c.args.gap in
    rw c.in-Ok.is
    (noted_model gap.start gap.len c.in-Ok.filled.named c.in-Ok.filled.order c.args.orders.now _ refl _ c.if-gap-le-MAX_SOLVE.true c.write_order.ensures)

pub returns-else-gap-le-MAX_SOLVE : goal.returns-else-gap-le-MAX_SOLVE
returns-else-gap-le-MAX_SOLVE c =
    let gap = c.args.gap in
    rw c.in-Ok.is
    (noted_line gap.start gap.len c.in-Ok.filled.named c.in-Ok.filled.order c.args.orders.now _ refl c.if-gap-le-MAX_SOLVE.false)
