-- `inpaint::window::needed_for` meets its contract: a line needs its length, and the model the sum of its areas, for a window
-- that is not large. Assumes nothing.
use Rattle.std.proofs.Common.{◌∙◌, arith}
use Rattle.inpaint.specs.Gap.{context}
use Rattle.inpaint.proofs.window.Laws.{context_most, size_most, needed_line, needed_model}
use Rattle.inpaint.proofs.window.needed_for.Goals as goal

pub returns-then-len-gt-MAX_SOLVE : goal.returns-then-len-gt-MAX_SOLVE
returns-then-len-gt-MAX_SOLVE c = needed_line _ _ _ c.if-len-gt-MAX_SOLVE.true

pub doubles_for-requires : goal.doubles_for-requires
doubles_for-requires c =
    let len = c.args.len in
    let small = size_most c.args.n c.args.start len (context len) c.if-len-gt-MAX_SOLVE.false (context_most len) in
    (rw (c.window_from.ensures, c.window_to.ensures) small, c.if-len-gt-MAX_SOLVE.false, omega (arith, c.order_for-p.ensures))

pub returns : goal.returns
returns c =
    c.doubles_for.ensures
    ∙ needed_model _ _ _ _ _ _ c.if-len-gt-MAX_SOLVE.false c.window_from.ensures c.window_to.ensures c.order_for-p.ensures
