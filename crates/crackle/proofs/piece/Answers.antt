-- `crackle::piece` meets its contract: each way out is a line of the rule. Assumes nothing.
use Rattle.std.proofs.Common.{refl, arith}
use Rattle.crackle.proofs.Steps.{not_much, piece_few, piece_much, piece_short, piece_out, piece_taken}
use Rattle.crackle.proofs.piece.Goals as goal

pub returns-then-held-lt-MEAN_OVER : goal.returns-then-held-lt-MEAN_OVER
returns-then-held-lt-MEAN_OVER c = rw (c.refused.ensures.0, c.refused.ensures.1) (piece_few _ _ _ _ c.if-held-lt-MEAN_OVER.true)

pub returns-then-too_much : goal.returns-then-too_much
returns-then-too_much c =
    rw (c.refused-then-too_much.ensures.0, c.refused-then-too_much.ensures.1)
    (piece_much _ _ _ _ c.if-held-lt-MEAN_OVER.false _ c.too_much.ensures _ c.if-too_much.true c.close.ensures)

pub returns-then-flags-due : goal.returns-then-flags-due
returns-then-flags-due c =
    rw (c.refused-then-flags-due.ensures.0, c.refused-then-flags-due.ensures.1)
    (piece_short _ _ _ _ c.if-held-lt-MEAN_OVER.false _ c.too_much.ensures c.if-too_much.false _ c.flags_due-due.ensures c.if-flags-due.true)

pub returns-in-Err : goal.returns-in-Err
returns-in-Err c =
    rw (c.refused-in-Err.ensures.0, c.refused-in-Err.ensures.1)
    (piece_out _ _ _ _ c.if-held-lt-MEAN_OVER.false _ c.too_much.ensures c.if-too_much.false _ c.flags_due-due.ensures c.if-flags-due.false _
    c.in-Err.ensures _ _ refl c.close-in-Err.ensures)

pub take_in-requires : goal.take_in-requires
take_in-requires c =
    let d = c.args.detector in (
      c.if-held-lt-MEAN_OVER.false,
      omega (arith, not_much d _ _ c.too_much.ensures c.if-too_much.false),
      omega (arith, c.flags_due-due.ensures, c.if-flags-due.false),
    )

pub returns : goal.returns
returns c =
    piece_taken _ _ _ _ c.if-held-lt-MEAN_OVER.false _ c.too_much.ensures c.if-too_much.false _ c.flags_due-due.ensures c.if-flags-due.false _
    c.in_default.ensures _ _ _ _ refl c.take_in.ensures
