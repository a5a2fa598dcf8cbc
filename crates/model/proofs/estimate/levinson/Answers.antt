-- `model::estimate::levinson` meets its contract. The loop's invariant: the orders that are left, from the coefficients
-- as they stand, give the coefficients and the order of the whole, and nothing but the copy and the coefficients was
-- written. Assumes nothing.
use Prim.Native.Nat.{◌+◌, ◌-◌, ◌*◌, ◌≤◌}
use native.Mathlib.Omega.{arith}
use mathlib.Core.Path.{◌≡◌, refl, ap, ◌∙◌}
use mathlib.Core.List.{List}
use lib.ListN.{length}
use lib.Ieee.{Float, neg}
use Rattle.leaves.specs.Arithmetic.{◌/₆₄◌}
use Rattle.model.specs.Model.{shortfall, raised}
use Rattle.model.specs.Areas.{area, Only}
use Rattle.model.proofs.Parts.{only_then}
use Rattle.model.proofs.estimate.Laws.{order_stands, shortfall_here, stop, orders_done, orders_small}
use Rattle.model.proofs.estimate.Laws.{orders_ended, orders_next, levinson_ends, copied}
use Rattle.model.proofs.estimate.levinson.Goals as goal
use Rattle.model.proofs.estimate.levinson.Goals.{After-order_shortfall-acc, After-copy_within}

-- what the order has to make up for, from the lags and the coefficients as they stand
made_up : (c : After-order_shortfall-acc) → let n = c.args.p + 1 in c.order_shortfall-acc.result ≡ shortfall (area c.loop-i.work (c.args.r + 2 * n) n) (area c.start_unit.new.work c.args.r n) c.loop-i.i
made_up c =
    let r = c.args.r in
    let n = c.args.p + 1 in
    let coefs-lent : r + 2 * n + n - (r + 2 * n) ≡ n = omega arith in
    let lags-lent : r + n - r ≡ n = omega arith in
    shortfall_here c.start_unit.new.work c.loop-i.work r (r + n) (r + 2 * n) c.args.p (r + 3 * n) _ _ _ _ coefs-lent lags-lent (omega arith)
    c.loop-i.invariant.0 c.order_shortfall-acc.ensures

-- the coefficients of the order, and that nothing else was written but the copy
raised_here : (c : After-copy_within) → let n = c.args.p + 1 in let k = neg c.order_shortfall-acc.result /₆₄ c.loop-i.e in
    (area c.copy_within.new.self (c.args.r + 2 * n) n ≡ raised (area c.loop-i.work (c.args.r + 2 * n) n) c.loop-i.i k) × Only (c.args.r + n) (c.args.r + 3 * n) c.loop-i.work c.copy_within.new.self
raised_here c =
    let r = c.args.r in
    let n = c.args.p + 1 in
    let room : r + 2 * n + n ≤ length c.loop-i.work = omega arith in
    order_stands c.loop-i.work c.raise_order.new.work c.copy_within.new.self (r + n) (r + 2 * n) c.args.p _ (r + 3 * n) _ (omega arith) room (omega arith)
    c.raise_order.ensures (copied _ _ (r + n) (r + 2 * n) n (omega arith) (omega arith) c.copy_within.ensures.after)

pub returns-then-magnitude : goal.returns-then-magnitude
returns-then-magnitude c =
    let acc = made_up (goal.at.returns-then-magnitude c).After-order_shortfall-acc in
    let inv = c.loop-i.invariant in
    levinson_ends c.args.work.now _ _ c.args.r c.args.p _ c.requires.0 c.start_unit.ensures inv.0
    (orders_small _ _ _ _ _ _ inv.1 _ _ _ _ (omega arith) c.magnitude.ensures acc refl refl c.if-magnitude.true)

pub returns-then-e : goal.returns-then-e
returns-then-e c =
    let acc = made_up (goal.at.returns-then-e c).After-order_shortfall-acc in
    let done = raised_here (goal.at.returns-then-e c).After-copy_within in
    let inv = c.loop-i.invariant in
    let ended = orders_ended _ _ _ _ _ _ inv.1 _ _ _ _ (omega arith) c.magnitude.ensures acc refl refl c.if-magnitude.false c.if-e.true in
    levinson_ends c.args.work.now _ _ c.args.r c.args.p _ c.requires.0 c.start_unit.ensures (only_then _ _ _ _ _ inv.0 done.1)
    (ap (λ (a : List Float). stop a c.loop-i.i) done.0 ∙ ended)

pub loop-i-preserved : goal.loop-i-preserved
loop-i-preserved c =
    let acc = made_up (goal.at.loop-i-preserved c).After-order_shortfall-acc in
    let done = raised_here (goal.at.loop-i-preserved c).After-copy_within in
    let inv = c.loop-i.invariant in
    let on = orders_next _ _ _ _ _ _ inv.1 _ _ _ _ (omega arith) c.magnitude.ensures acc refl refl c.if-magnitude.false c.if-e.false in
    (only_then _ _ _ _ _ inv.0 done.1, rw done.0 on)

pub returns : goal.returns
returns c =
    let inv = c.loop-i.invariant in
    levinson_ends c.args.work.now _ _ c.args.r c.args.p _ c.requires.0 c.start_unit.ensures inv.0
    (orders_done _ _ _ _ _ _ inv.1 (omega arith))
