-- `repair::repair_recording` meets its contract: it scans what opening left. Assumes nothing.
use Rattle.monitor.proofs.Scanning.{opened_then}
use Rattle.repair.specs.Program.{repairing, repairing_orders}
use Rattle.repair.proofs.repair_recording.Goals as goal

pub returns-clause-rule : goal.returns-clause-rule
unfolding repairing repairing_orders
returns-clause-rule c = opened_then _ _ _ _ _ _ _ c.open_as_measured.ensures.rule c.scan_recording.ensures.rule
