-- `inpaint::auto::inpaint_auto` meets its contract: refusals 1, 14 and 2 to 4 end it and keep the list, and else it is the scan with the
-- limit. Assumes nothing.
use Rattle.recording.specs.Lent as lent
use Rattle.inpaint.proofs.auto.Laws.{automatic_refused, automatic_scanned, accepted_few, accepted_rate}
use Rattle.inpaint.proofs.Orders.{list_of_scan, list_of_refused}
use Rattle.inpaint.proofs.auto.inpaint_auto.Goals as goal

pub returns-in-Err-clause-rule : goal.returns-in-Err-clause-rule
returns-in-Err-clause-rule c =
    let a = c.args in
    automatic_refused a.rate a.millis a.held a.work.now (lent.held a.recording.now) _ c.check_scan.ensures _ c.in-Err.is

pub returns-in-Err-clause-orders : goal.returns-in-Err-clause-orders
returns-in-Err-clause-orders c =
    let a = c.args in
    list_of_refused a.rate a.millis a.held a.work.now (lent.held a.recording.now) _ _ a.orders.now c.check_scan.ensures c.in-Err.is

pub longest_run-most-requires : goal.longest_run-most-requires
longest_run-most-requires c =
    let a = c.args in
    accepted_rate a.rate a.millis a.held a.work.now (lent.held a.recording.now) _ c.check_scan.ensures _ c.in_default.is

pub repair_runs-requires : goal.repair_runs-requires
repair_runs-requires c =
    let a = c.args in
    accepted_few a.rate a.millis a.held a.work.now (lent.held a.recording.now) _ c.check_scan.ensures _ c.in_default.is

pub returns-clause-rule : goal.returns-clause-rule
returns-clause-rule c =
    automatic_scanned _ _ _ _ (lent.held c.args.recording.now) _ c.check_scan.ensures _ c.in_default.is _ _ c.longest_run-most.ensures
    c.repair_runs.ensures.rule

pub returns-clause-orders : goal.returns-clause-orders
returns-clause-orders c =
    let a = c.args in
    list_of_scan a.rate a.millis a.held a.work.now (lent.held a.recording.now) _ _ _ a.orders.now _ c.check_scan.ensures c.in_default.is
    c.longest_run-most.ensures c.repair_runs.ensures.orders
