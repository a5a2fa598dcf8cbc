-- `wavfile::bytes::repair_samples` meets its contract: what the scan left is written. Assumes nothing.
use Rattle.wavfile.proofs.Program.{rewrites}
use Rattle.wavfile.proofs.bytes.repair_samples.Goals as goal

pub returns : goal.returns
returns c =
    rewrites _ _ _ _ _ _ _ _ _ _ _ c.scan_samples-scanned.ensures c.write_wav-written.ensures
