-- `inpaint::auto::check_scan` meets its contract: each way out is a line of the rule. Assumes nothing.
use Rattle.std.proofs.lemmas.Result.{err_from_is_err_and}
use Rattle.recording.specs.Lent as lent
use Rattle.inpaint.proofs.auto.Laws.{scannable_unfit, scannable_all, scannable_setting}
use Rattle.inpaint.proofs.auto.check_scan.Goals as goal

pub returns-in_err-check_sizes : goal.returns-in_err-check_sizes
returns-in_err-check_sizes c =
    let p = err_from_is_err_and c.from_residual.result c.from_residual.ensures.1 in
    rw (p.1, p.2, ← c.in_err-check_sizes.was) (scannable_unfit _ _ _ _ _ c.check_sizes.ensures _ c.in_err-check_sizes.was)

pub returns-then-scan_allowed : goal.returns-then-scan_allowed
returns-then-scan_allowed c =
    scannable_all _ _ _ (lent.held c.args.recording.now) _ c.check_sizes.ensures _ c.in_ok-check_sizes.was _
    c.scan_allowed.ensures c.if-scan_allowed.true

pub returns-else-scan_allowed : goal.returns-else-scan_allowed
returns-else-scan_allowed c =
    scannable_setting _ _ _ (lent.held c.args.recording.now) _ c.check_sizes.ensures _ c.in_ok-check_sizes.was _
    c.scan_allowed.ensures c.if-scan_allowed.false
