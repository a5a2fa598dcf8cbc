-- `wavfile::scan::scan_opened` meets its contract: it scans what opening left, with the rule's limit and held run. Assumes nothing.
use Rattle.wavfile.proofs.Scanning.{scanned_so}
use Rattle.wavfile.proofs.scan.scan_opened.Goals as goal

pub returns-clause-rule : goal.returns-clause-rule
returns-clause-rule c =
    scanned_so _ _ _ _ _ _ _ _ c.open_as_measured.ensures.rule (c.inpaint_auto.ensures.rule, c.inpaint_auto.ensures.orders)
