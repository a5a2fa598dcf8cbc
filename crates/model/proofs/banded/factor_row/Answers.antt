-- `model::banded::factor_row` meets its contract. The loop's invariant: k places of the row stand behind the rows
-- before it and nothing else changed, and the places that are left of the row give the whole. Assumes nothing.
use Prim.Native.Nat.{◌+◌, ◌*◌}
use native.Mathlib.Omega.{arith}
use native.Mathlib.Nat.{add-zero, sub-zero}
use mathlib.Core.Path.{◌≡◌, refl, sym}
use lib.ListN.{length-set}
use Rattle.leaves.proofs.Parts.{own_part}
use Rattle.model.proofs.banded.Laws.{row_more, run_grows, cells_turn, cells_done}
use Rattle.model.proofs.banded.factor_row.Goals as goal

pub loop-k-init : goal.loop-k-init
loop-k-init c =
    let args = c.args in
    let row = row_more args.i args.p in
    rw (add-zero, sub-zero) (refl, sym (own_part _ args.band (args.i * (args.p + 1)) (omega arith)), refl)

pub loop-k-preserved : goal.loop-k-preserved
loop-k-preserved c =
    let args = c.args in
    let loop = c.loop-k in
    let inv = loop.invariant in
    let before = args.i * (args.p + 1) in
    let row = row_more args.i args.p in
    let next : before + (loop.k + 1) ≡ before + loop.k + 1 = omega arith in (
      simp length-set inv.0,
      rw next (run_grows _ _ args.band (before + loop.k) _ (omega arith) inv.1),
      cells_turn _ _ args.b args.band args.p args.i before loop.k _ inv.1 _ (omega arith) (omega arith) (omega arith) c.cell_at.ensures inv.2,
    )

pub returns : goal.returns
returns c =
    let args = c.args in
    let loop = c.loop-k in
    cells_done _ _ args.b args.band args.p args.i (args.i * (args.p + 1)) loop.k _ loop.invariant.1 (omega arith) loop.invariant.2
