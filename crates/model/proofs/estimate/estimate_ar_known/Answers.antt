-- `model::estimate::estimate_ar_known` meets its contract: the model is 1, 0, .., 0, of order 0, or that of the lags with
-- the first raised. Assumes nothing.
use Prim.Native.Nat.{◌+◌, ◌*◌, ◌≤◌}
use native.Mathlib.Omega.{arith}
use mathlib.Core.Path.{refl}
use lib.ListN.{length}
use Rattle.model.proofs.estimate.Laws.{estimate_unit, estimate_model}
use Rattle.model.proofs.estimate.estimate_ar_known.Goals as goal

pub returns-then-work-size : goal.returns-then-work-size
returns-then-work-size c =
    let a = c.args in
    let room : a.size + 3 * (a.p + 1) ≤ length a.work.now = omega arith in
    estimate_unit a.work.now _ a.size a.g a.len a.p room c.correlate.ensures _
    c.if-work-size.true c.start_unit.ensures

pub returns : goal.returns
returns c =
    let a = c.args in
    let room : a.size + 3 * (a.p + 1) ≤ length a.work.now = omega arith in
    estimate_model a.work.now _ a.size a.g a.len a.p room c.correlate.ensures _ _ _
    c.if-work-size.false refl c.levinson.ensures
