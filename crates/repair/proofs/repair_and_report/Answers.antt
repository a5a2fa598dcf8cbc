-- `repair_and_report` meets its contract: writing the report changes nothing of what was repaired. Assumes nothing.
use mathlib.Core.Path.{ap}
use Rattle.monitor.specs.Scanning.{Report}
use Rattle.repair.proofs.repair_and_report.Goals as goal

pub returns : goal.returns
returns g c =
    let made = c.repair_bytes-scanned.ensures in
    (ap (λ (r : Report). r.samples) made, ap (λ (r : Report). r.marks) made, ap (λ (r : Report). r.orders) made)
