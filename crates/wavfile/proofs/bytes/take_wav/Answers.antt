-- `wavfile::bytes::take_wav` meets its contract: the test of the rate chooses. Assumes nothing.
use Rattle.std.proofs.lemmas.Result.{err_from_is_err_and}
use Rattle.wavfile.proofs.Program.{takes_it, takes_no_rate, takes_none}
use Rattle.wavfile.proofs.bytes.take_wav.Goals as goal

pub returns-in_err-read : goal.returns-in_err-read
returns-in_err-read c =
    let p = err_from_is_err_and c.from_residual.result c.from_residual.ensures.1 in
    rw (p.1, p.2) (takes_none _ _ _ _ _ _ c.in_err-read.ensures)

pub returns-then-settings_allowed : goal.returns-then-settings_allowed
returns-then-settings_allowed c =
    takes_it _ _ _ _ c.in_ok-read.ensures _ c.settings_allowed.ensures c.if-settings_allowed.true

pub returns-else-settings_allowed : goal.returns-else-settings_allowed
returns-else-settings_allowed c =
    takes_no_rate _ _ _ _ c.in_ok-read.ensures _ c.settings_allowed.ensures c.if-settings_allowed.false
