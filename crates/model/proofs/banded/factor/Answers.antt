-- `model::banded::factor` meets its contract. The loop's invariant: the first i rows stand at band and nothing
-- else changed, and the rows that are left give the whole. Assumes nothing.
use native.Mathlib.Omega.{arith}
use mathlib.Core.Path.{refl}
use Rattle.model.proofs.banded.Laws.{none_stored, rows_start, row_length, row_stored, rows_turn, rows_done}
use Rattle.model.proofs.banded.factor.Goals as goal

pub loop-i-init : goal.loop-i-init
loop-i-init c =
    let args = c.args in
    (refl, none_stored _ args.band args.p, rows_start _ args.work.now args.band args.p args.len)

pub loop-i-preserved : goal.loop-i-preserved
loop-i-preserved c =
    let args = c.args in
    let loop = c.loop-i in
    let inv = loop.invariant in
    let taken = c.loop-i-test.true in
    let row = c.factor_row.ensures in
    let b = args.b in
    let band = args.band in
    let len = args.len in
    let p = args.p in (
      row_length _ _ b band len p loop.i inv.1 _ taken (omega arith) (omega arith) inv.0 row,
      row_stored _ _ b band len p loop.i inv.1 _ taken (omega arith) (omega arith) inv.0 row,
      rows_turn _ _ b band len p loop.i inv.1 _ taken (omega arith) (omega arith) inv.0 row _ inv.2,
    )

pub returns : goal.returns
returns c =
    let args = c.args in
    let loop = c.loop-i in
    rows_done _ _ args.b args.band args.len args.p loop.i loop.invariant.1 _ c.loop-i-test.false loop.invariant.2
