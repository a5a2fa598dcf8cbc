-- `monitor::scan_recording` meets its contract: it scans at the rule's rate, with the rule's limit and held run. Assumes nothing.
use Rattle.monitor.proofs.Scanning.{scanned_so}
use Rattle.monitor.proofs.scan_recording.Goals as goal

pub returns-clause-rule : goal.returns-clause-rule
returns-clause-rule c = scanned_so _ _ _ _ _ (c.inpaint_auto.ensures.rule, c.inpaint_auto.ensures.orders)
