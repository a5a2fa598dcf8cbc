-- `model::fill::fill_by_model` meets its contract: the coefficients, their sums, and the gap that they solve; the order is
-- that of the coefficients. Assumes nothing.
use Rattle.model.proofs.fill.Laws.{pass_solved}
use Rattle.model.proofs.fill.fill_by_model.Goals as goal

pub returns : goal.returns
returns c =
    let a = c.args in
    let filled =
    pass_solved a.work.now c.estimate_ar_known-order.new.work c.coef_autocorr.new.work _ a.size a.g
    a.len a.p c.requires.room c.estimate_ar_known-order.ensures.0 c.estimate_ar_known-order.ensures.1
    c.coef_autocorr.ensures c.solve_gap.ensures.0 c.solve_gap.ensures.1 in
    (filled.0, filled.1, c.estimate_ar_known-order.ensures.2)
